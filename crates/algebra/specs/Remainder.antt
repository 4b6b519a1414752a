-- Remainders of products and powers. Assumes nothing.
--
--   mod-mul-mod mul-mod-mod   a factor may be replaced by its remainder
--   mod-pow-mod               so may the base of a power
use Rattle.std.specs.Prelude.{ℕ, zero, suc, ◌*◌, ◌%◌, ◌^◌, ◌≡◌}
use Rattle.std.proofs.Common.{sym, ap, ◌∙◌, add-mul, mul_assoc, mul_comm, pow-suc}
use Rattle.std.proofs.Math.Nat.{div-add-mod, mul-add-mod_self_left, pow-zero}

pub mod-mul-mod : (a b m : ℕ) → (a % m * b) % m ≡ (a * b) % m
mod-mul-mod a b m = sym (ap (λ q. q * b % m) (sym (div-add-mod a m)) ∙ rw (add-mul, mul_assoc, mul-add-mod_self_left))

pub mul-mod-mod : (a b m : ℕ) → (a * (b % m)) % m ≡ (a * b) % m
mul-mod-mod a b m = rw (mul_comm a (b % m), mod-mul-mod b a m, mul_comm b a)

pub mod-pow-mod : (a k m : ℕ) → ((a % m) ^ k) % m ≡ (a ^ k) % m
mod-pow-mod a zero m = rw (pow-zero, pow-zero)
mod-pow-mod a (suc k) m =
    rw (pow-suc (a % m) k, pow-suc a k, mul-mod-mod, ← mod-mul-mod ((a % m) ^ k) a m, mod-pow-mod a k m, mod-mul-mod (a ^ k) a m)
