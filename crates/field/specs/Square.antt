-- Powering by squaring: the factor r, the base b and the exponent k that is left stand for r b^k, modulo p.
--
--   power-even    the step where k is even: b is squared and k halved
--   power-odd     the step where k is odd: before that, r is multiplied by b
-- Assumes nothing.
use Rattle.std.specs.Prelude.{ℕ, zero, suc, ◌*◌, ◌/◌, ◌%◌, ◌^◌, ◌≡◌}
use Rattle.std.proofs.Common.{◌∙◌, div-add-mod', mul_assoc, mul_comm, mul-one, one-mul, pow-suc, suc-mul, pow-add}
use Rattle.std.proofs.Math.Nat.{pow-zero}
use Rattle.algebra.specs.Remainder.{mod-mul-mod, mul-mod-mod, mod-pow-mod}

pow-one : (b : ℕ) → b ^ 1 ≡ b
pow-one b = pow-suc b 0 ∙ rw (pow-zero, one-mul)

pow_double : (b k : ℕ) → b ^ (k * 2) ≡ (b * b) ^ k
pow_double b zero = rw (pow-zero b, pow-zero (b * b))
pow_double b (suc k) = rw (suc-mul, pow-add, pow_double b k, pow-suc (b * b) k, square)
  where
    square : b ^ 2 ≡ b * b
    square = pow-suc b 1 ∙ rw pow-one

-- b^k by the halves of k
halved : (b k : ℕ) → (b * b) ^ (k / 2) * b ^ (k % 2) ≡ b ^ k
halved b k = rw (← pow_double, ← pow-add, div-add-mod')

squared : (p r b k : ℕ) → (r * (b * b % p) ^ k) % p ≡ (r * (b * b) ^ k) % p
squared p r b k = rw (← mul-mod-mod r ((b * b % p) ^ k) p, mod-pow-mod, mul-mod-mod)

module _ (p r b k : ℕ) where
  pub power-even : k % 2 ≡ 0 → (r * (b * b % p) ^ (k / 2)) % p ≡ (r * b ^ k) % p
  power-even even = squared p r b (k / 2) ∙ rw (← halved b k, even, pow-zero, mul-one)

  pub power-odd : k % 2 ≡ 1 → (r * b % p * (b * b % p) ^ (k / 2)) % p ≡ (r * b ^ k) % p
  power-odd odd =
      mod-mul-mod (r * b) _ p ∙ squared p (r * b) b (k / 2)
      ∙ rw (← halved b k, odd, pow-one, mul_assoc r b, mul_comm b ((b * b) ^ (k / 2)))
