-- The natural numbers in a semiring. Assumes nothing.
--
--   natural R n       𝟙 ⊕ .. ⊕ 𝟙, n times
--   natural-0 natural-suc natural-1   its equations, and the number 1
--   natural-+ natural-*   sums and products of numbers
--   map-natural       a homomorphism keeps the natural numbers
--   natural_along     a homomorphism from the natural numbers takes n to n
--   natural-naturals power-naturals   numbers and powers in the semiring of natural numbers itself
use Rattle.std.specs.Prelude.{ℕ, zero, suc, ◌+◌, ◌*◌, ◌^◌, ◌≡◌}
use Rattle.std.proofs.Math.Path.{refl}
use Rattle.std.proofs.Common.{add-suc, add-zero, mul-suc, mul-zero, add-one}
use Rattle.std.proofs.Math.Nat.{pow-succ', pow-zero}
use Rattle.algebra.specs.Homomorphism.{Homomorphism}
use Rattle.algebra.specs.Power.{power, power-0, power-suc}
use Rattle.algebra.specs.Semiring.{Semiring, naturals, 𝟘-⊕, ⊕-𝟘, ⊕_assoc, ⊗-𝟘, ⊗-𝟙, ⊗-⊕}

module _ {A : Type 0} (R : Semiring A) where
  open R use {𝟘, 𝟙, ◌⊕◌, ◌⊗◌}

  pub natural : ℕ → A
  natural zero = 𝟘
  natural (suc n) = natural n ⊕ 𝟙

  pub natural-0 : natural 0 ≡ 𝟘
  unfolding natural
  natural-0 = refl

  pub natural-suc : (n : ℕ) → natural (suc n) ≡ natural n ⊕ 𝟙
  unfolding natural
  natural-suc n = refl

  pub natural-1 : natural 1 ≡ 𝟙
  natural-1 = rw (natural-suc 0, natural-0, 𝟘-⊕ R)

  pub natural-+ : (m n : ℕ) → natural (m + n) ≡ natural m ⊕ natural n
  natural-+ m zero = rw (add-zero, natural-0, ⊕-𝟘 R)
  natural-+ m (suc n) = rw (add-suc, natural-suc, natural-suc, natural-+ m n, ⊕_assoc R)

  pub natural-* : (m n : ℕ) → natural (m * n) ≡ natural m ⊗ natural n
  natural-* m zero = rw (mul-zero, natural-0, ⊗-𝟘 R)
  natural-* m (suc n) = rw (mul-suc, natural-+, natural-suc, natural-* m n, ⊗-⊕ R, ⊗-𝟙 R)

pub map-natural : {A B : Type 0} {R : Semiring A} {S : Semiring B} (φ : Homomorphism R S) (n : ℕ)
    → φ.map (natural R n) ≡ natural S n
map-natural {R} {S} φ zero = rw (natural-0 R, natural-0 S, φ.map-𝟘)
map-natural {R} {S} φ (suc n) = rw (natural-suc R, natural-suc S, φ.map-⊕, φ.map-𝟙, map-natural φ n)

pub natural-naturals : (n : ℕ) → natural naturals n ≡ n
natural-naturals zero = natural-0 naturals
natural-naturals (suc n) = rw (natural-suc naturals, natural-naturals n, add-one)

pub natural_along : {B : Type 0} {S : Semiring B} (φ : Homomorphism naturals S) (n : ℕ) → φ.map n ≡ natural S n
natural_along φ n = rw (natural-naturals n) at (map-natural φ n)

pub power-naturals : (a k : ℕ) → power naturals a k ≡ a ^ k
power-naturals a zero = rw (power-0 naturals, pow-zero)
power-naturals a (suc k) = rw (power-suc naturals, pow-succ', power-naturals a k)
