-- Route 4, Kinoshita and Li (document 001, Algorithm 2). A polynomial in x and y is a function: a j i is the coefficient of y^j x^i.
--
--   plane_at r l        the polynomial that a list holds in rows of r places, row j for y^j
--   plane r w a        the list that holds a below x^r and y^w, in rows of r places
--   negative p c       -c modulo p
--   numerator f        P: f's list reversed, the coefficients of a polynomial in y alone
--   denominator p g    Q = 1 - y g
--   opposite p a       a(-x, y)
--   product2 a b       the product of two polynomials in x and y
--   cut_product2_at p a b   the same modulo p
--   even_part a         the even powers of x, x for x^2
--   squared a          a(x^2, y)
--   window l a         the powers of y from l on, moved down to 0
--   quotient p k a b   the first k coefficients of the series a / b modulo p, where b has constant term 1
use Rattle.std.specs.Prelude.{ℕ, zero, suc, ◌+◌, ◌-◌, ◌*◌, ◌/◌, ◌%◌, cond, List, [], ◌∷◌, ◌++◌, reverse, eqb, ltb}
use Rattle.definition.specs.Lists.{sum, tabulate, coefficient}
use Rattle.definition.specs.Substitution.{product, constant}
use Rattle.definition.specs.Bernstein.{spread}

unfoldable pub plane_at : ℕ → List ℕ → ℕ → ℕ → ℕ
plane_at r l j i = cond (ltb i r) (coefficient l (j * r + i)) 0

unfoldable pub plane_place : ℕ → (ℕ → ℕ → ℕ) → ℕ → ℕ
plane_place r a k = a (k / r) (k % r)

unfoldable pub plane : ℕ → ℕ → (ℕ → ℕ → ℕ) → List ℕ
plane r w a = tabulate (w * r) (plane_place r a)

unfoldable pub negative : ℕ → ℕ → ℕ
negative p c = (p - c % p) % p

unfoldable pub numerator : List ℕ → List ℕ
numerator f = reverse f

unfoldable pub denominator : ℕ → List ℕ → ℕ → ℕ → ℕ
denominator p g zero i = constant 1 i
denominator p g (suc zero) i = negative p (coefficient g i)
denominator p g (suc (suc j)) i = 0

unfoldable pub opposite : ℕ → (ℕ → ℕ → ℕ) → ℕ → ℕ → ℕ
opposite p a j i = cond (eqb (i % 2) 0) (a j i) (negative p (a j i))

unfoldable pub product2_term : (ℕ → ℕ → ℕ) → (ℕ → ℕ → ℕ) → ℕ → ℕ → ℕ → ℕ
product2_term a b j i l = product (a l) (b (j - l)) i

unfoldable pub product2 : (ℕ → ℕ → ℕ) → (ℕ → ℕ → ℕ) → ℕ → ℕ → ℕ
product2 a b j i = sum (suc j) (product2_term a b j i)

unfoldable pub cut_product2_at : ℕ → (ℕ → ℕ → ℕ) → (ℕ → ℕ → ℕ) → ℕ → ℕ → ℕ
cut_product2_at p a b j i = product2 a b j i % p

unfoldable pub even_part : (ℕ → ℕ → ℕ) → ℕ → ℕ → ℕ
even_part a j i = a j (2 * i)

unfoldable pub squared : (ℕ → ℕ → ℕ) → ℕ → ℕ → ℕ
squared a j = spread 2 (a j)

unfoldable pub window : ℕ → (ℕ → ℕ → ℕ) → ℕ → ℕ → ℕ
window l a j = a (l + j)

-- u is the list of the first coefficients of a / b; the next is a(k) - (b(k) u(0) + b(k - 1) u(1) + .. + b(1) u(k - 1))
unfoldable pub quotient_term : ℕ → (ℕ → ℕ) → List ℕ → ℕ → ℕ → ℕ
quotient_term p b u k i = negative p (b (k - i)) * coefficient u i

unfoldable pub quotient_next : ℕ → (ℕ → ℕ) → (ℕ → ℕ) → List ℕ → ℕ → ℕ
quotient_next p a b u k = (a k + sum k (quotient_term p b u k)) % p

unfoldable pub quotient : ℕ → ℕ → (ℕ → ℕ) → (ℕ → ℕ) → List ℕ
quotient p zero a b = []
quotient p (suc k) a b = quotient p k a b ++ (quotient_next p a b (quotient p k a b) k ∷ [])
