-- Differences and sums of residues modulo p without a division by p, and products of numbers that are below a bound.
--
--   product-below        the product of two numbers below m is at most (m - 1)^2
--   negative-sum         a - b modulo p is a + (p - b), where b is at most p
--   wrapped_difference   b taken off a, modulo 2^32, and p more where that is below 0: a - b modulo p
--   sum-difference       p - b taken off a, modulo p: a + b
-- Assumes nothing.
use Rattle.std.specs.Prelude.{◌≡◌, ℕ, ◌+◌, ◌-◌, ◌*◌, ◌%◌, ◌^◌, ◌<◌, ◌≤◌, ◌⊎◌}
use Rattle.std.proofs.Math.Decide.{dec_lt}
use Rattle.std.proofs.Math.Nat.{add-mod-mod, add-mod_right, mod_self, sub_self, sub-zero}
use Rattle.std.proofs.Common.{add-zero, mod-eq_of_lt, mul-le-mul, arith, inl, inr}
use Rattle.definition.specs.KinoshitaLi.{negative}

pub product-below : {m a b : ℕ} → a < m → b < m → a * b ≤ (m - 1) * (m - 1)
product-below {m} h k = mul-le-mul {n₂ = m - 1} {m₂ = m - 1} (omega arith) (omega arith)

-- the remainder of p - b changes nothing
pub negative-sum : {p b : ℕ} → b ≤ p → (a : ℕ) → (a + negative p b) % p ≡ (a + (p - b)) % p
unfolding negative
negative-sum {p} {b} h a = at (dec_lt b p)
  where
    at : Dec (b < p) → (a + (p - b % p) % p) % p ≡ (a + (p - b)) % p
    at (yes l) = rw (add-mod-mod, mod-eq_of_lt l)
    at (no l) =
        let e : b ≡ p = omega arith in
        rw (add-mod-mod, e, mod_self, sub_self, sub-zero, add-mod_right, add-zero)

pub wrapped_difference : {p a b : ℕ} → a < p + b → b ≤ p → {Below Above : Type 0} → (Below → a < b) → (Above → b ≤ a)
    → {r s more : ℕ} → p < 2 ^ 32 → s < 2 ^ 32 → (s + b) % 2 ^ 32 ≡ a → r ≡ (s + more) % 2 ^ 32
    → (Below × (more ≡ p)) ⊎ (Above × (more ≡ 0)) → r ≡ (a + negative p b) % p
wrapped_difference {p} {a} {b} left right below above small fits e f (inl (h, g)) =
    rw (negative-sum right a, mod-eq_of_lt {n = a + (p - b)} {m = p} (omega (arith, below h))) (omega (arith, below h))
wrapped_difference {p} {a} {b} left right below above small fits e f (inr (h, g)) =
    let k : a + (p - b) ≡ a - b + p = omega (arith, above h) in
    rw (negative-sum right a, k, add-mod_right, mod-eq_of_lt {n = a - b} {m = p} (omega arith)) (omega (arith, above h))

pub sum-difference : {p b : ℕ} → b < p → (a : ℕ) → (a + negative p (p - b)) % p ≡ (a + b) % p
sum-difference {p} {b} h a =
    let e : p - (p - b) ≡ b = omega arith in
    rw (negative-sum {p = p} {b = p - b} (omega arith) a, e)
