-- Sums, lists given by a rule, and the length of a list without the zeros at its end. A list (01's term) holds the coefficient of power 0
-- first; its places (01's term) are counted from 0, and place i is the coefficient of power i.
--
--   sum n f          f(0) + f(1) + .. + f(n - 1)
--   tabulate n f     the list f(0), f(1), .., f(n - 1)
--   coefficient l i  place i of a list, 0 where the list has ended: missing coefficients are zero
--   ceil_div a b      a / b, rounded up
--   effective_below l k   the place of the last non-zero coefficient before place k plus one, or 0 where there is none
--   effective_length l    that of all places: the effective length (the term of request N5)
use Rattle.std.specs.Prelude.{ℕ, zero, suc, ◌+◌, ◌-◌, ◌/◌, cond, List, [], ◌∷◌, ◌++◌, eqb, get_or, length}

unfoldable pub sum : ℕ → (ℕ → ℕ) → ℕ
sum zero f = 0
sum (suc n) f = sum n f + f n

unfoldable pub tabulate : ℕ → (ℕ → ℕ) → List ℕ
tabulate zero f = []
tabulate (suc n) f = tabulate n f ++ (f n ∷ [])

unfoldable pub coefficient : List ℕ → ℕ → ℕ
coefficient l i = get_or l i 0

unfoldable pub ceil_div : ℕ → ℕ → ℕ
ceil_div a b = (a + (b - 1)) / b

unfoldable pub effective_below : List ℕ → ℕ → ℕ
effective_below l zero = 0
effective_below l (suc k) = cond (eqb (coefficient l k) 0) (effective_below l k) (suc k)

unfoldable pub effective_length : List ℕ → ℕ
effective_length l = effective_below l (length l)
