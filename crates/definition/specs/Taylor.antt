-- The coefficients that decide whether two compositions with one inner series are equal (demand 3).
--
--   binomial n k             the number of ways to choose k things out of n
--   shifted f c i            coefficient i of f rewritten in powers of (z - c), over the natural numbers
--   valuation n g            v: the least power from 1 to n - 1 with a non-zero coefficient in g, or n if there is none
--   leading p n f g          the first ⌈n/v⌉ coefficients of f in powers of (z - c) modulo p, where c is the constant term of g
use Rattle.std.specs.Prelude.{ℕ, zero, suc, ◌+◌, ◌-◌, ◌*◌, ◌^◌, ◌%◌, cond, List, eqb, length}
use Rattle.definition.specs.Lists.{sum, tabulate, coefficient, ceil_div}

unfoldable pub binomial : ℕ → ℕ → ℕ
binomial n zero = 1
binomial zero (suc k) = 0
binomial (suc n) (suc k) = binomial n k + binomial n (suc k)

-- f's coefficient j times c^(j - i) times the ways to choose i out of j; 0 for j below i
unfoldable pub shifted_term : List ℕ → ℕ → ℕ → ℕ → ℕ
shifted_term f c i j = coefficient f j * c ^ (j - i) * binomial j i

unfoldable pub shifted : List ℕ → ℕ → ℕ → ℕ
shifted f c i = sum (length f) (shifted_term f c i)

-- the least of the k powers from i on with a non-zero coefficient in g, or i + k
unfoldable pub least_power : ℕ → ℕ → List ℕ → ℕ
least_power zero i g = i
least_power (suc k) i g = cond (eqb (coefficient g i) 0) (least_power k (suc i) g) i

unfoldable pub valuation : ℕ → List ℕ → ℕ
valuation n g = least_power (n - 1) 1 g

unfoldable pub leading_at : ℕ → List ℕ → List ℕ → ℕ → ℕ
leading_at p f g i = shifted f (coefficient g 0) i % p

unfoldable pub leading : ℕ → ℕ → List ℕ → List ℕ → List ℕ
leading p n f g = tabulate (ceil_div n (valuation n g)) (leading_at p f g)
