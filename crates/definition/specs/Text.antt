-- The printed answer, as bytes.
--
--   decimal n                    the decimal digits of n
--   accepted n weight l          `ok `, the order n, a space, the weight, a line end; the coefficients l with single spaces, a line end
--   refused number               `no `, the number, a line end
--   rendered number n weight l   the one or the other
use Rattle.std.specs.Prelude.{ℕ, zero, suc, ◌+◌, ◌/◌, ◌%◌, true, false, List, [], ◌∷◌, ◌++◌, ltb}

-- the digits of n, the most significant first; the first argument bounds their count
unfoldable pub decimal_within : ℕ → ℕ → List ℕ
decimal_within zero n = []
decimal_within (suc k) n =
    elim (ltb n 10) [ true ↦ (48 + n) ∷ [] | false ↦ decimal_within k (n / 10) ++ ((48 + n % 10) ∷ []) ]

unfoldable pub decimal : ℕ → List ℕ
decimal n = decimal_within (suc n) n

unfoldable pub space : ℕ
space = 32

unfoldable pub line_end : ℕ
line_end = 10

-- `ok ` and `no `
unfoldable pub ok_lead : List ℕ
ok_lead = 111 ∷ 107 ∷ 32 ∷ []

unfoldable pub no_lead : List ℕ
no_lead = 110 ∷ 111 ∷ 32 ∷ []

-- numbers with single spaces between them
unfoldable pub spaced : List ℕ → List ℕ
spaced [] = []
spaced (c ∷ []) = decimal c
spaced (c ∷ d ∷ l) = decimal c ++ space ∷ spaced (d ∷ l)

unfoldable pub accepted : ℕ → ℕ → List ℕ → List ℕ
accepted n weight l = ok_lead ++ decimal n ++ space ∷ decimal weight ++ line_end ∷ spaced l ++ line_end ∷ []

unfoldable pub refused : ℕ → List ℕ
refused number = no_lead ++ decimal number ++ line_end ∷ []

unfoldable pub rendered : ℕ → ℕ → ℕ → List ℕ → List ℕ
rendered zero n weight l = accepted n weight l
rendered (suc number) n weight l = refused (suc number)
