-- Polynomial substitution over the natural numbers, with the remainder modulo p last. A sequence ℕ → ℕ gives the coefficient of each power.
-- p is the modulus, n the order, f the outer and g the inner list (01's terms).
--
--   product a b k       coefficient k of a × b: the sum of a(i) b(k - i) over i from 0 to k
--   power g i k         coefficient k of g^i
--   substituted f g k   coefficient k of f(g), g a sequence: the sum of f's coefficient i times coefficient k of g^i
--   composed p n f g    f(g) modulo x^n and p, a list of n places
--   cut_product p n a b  the product of two lists modulo p, cut to n places
--   cut_sum p n a b      the sum of two lists modulo p, cut to n places
use Rattle.std.specs.Prelude.{ℕ, zero, suc, ◌+◌, ◌-◌, ◌*◌, ◌%◌, List, length}
use Rattle.definition.specs.Lists.{sum, tabulate, coefficient}

unfoldable pub product_term : (ℕ → ℕ) → (ℕ → ℕ) → ℕ → ℕ → ℕ
product_term a b k i = a i * b (k - i)

unfoldable pub product : (ℕ → ℕ) → (ℕ → ℕ) → ℕ → ℕ
product a b k = sum (suc k) (product_term a b k)

-- the series c: c at power 0, and 0 at every other
unfoldable pub constant : ℕ → ℕ → ℕ
constant c zero = c
constant c (suc k) = 0

unfoldable pub power : (ℕ → ℕ) → ℕ → ℕ → ℕ
power g zero = constant 1
power g (suc i) = product (power g i) g

unfoldable pub substituted_term : List ℕ → (ℕ → ℕ) → ℕ → ℕ → ℕ
substituted_term f g k i = coefficient f i * power g i k

unfoldable pub substituted : List ℕ → (ℕ → ℕ) → ℕ → ℕ
substituted f g k = sum (length f) (substituted_term f g k)

unfoldable pub composed_at : ℕ → List ℕ → List ℕ → ℕ → ℕ
composed_at p f g k = substituted f (coefficient g) k % p

unfoldable pub composed : ℕ → ℕ → List ℕ → List ℕ → List ℕ
composed p n f g = tabulate n (composed_at p f g)

unfoldable pub cut_product_at : ℕ → List ℕ → List ℕ → ℕ → ℕ
cut_product_at p a b k = product (coefficient a) (coefficient b) k % p

unfoldable pub cut_product : ℕ → ℕ → List ℕ → List ℕ → List ℕ
cut_product p n a b = tabulate n (cut_product_at p a b)

unfoldable pub cut_sum_at : ℕ → List ℕ → List ℕ → ℕ → ℕ
cut_sum_at p a b k = (coefficient a k + coefficient b k) % p

unfoldable pub cut_sum : ℕ → ℕ → List ℕ → List ℕ → List ℕ
cut_sum p n a b = tabulate n (cut_sum_at p a b)
