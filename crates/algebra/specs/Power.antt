-- Powers in a semiring. Assumes nothing.
--
--   power R s k       s ⊗ .. ⊗ s, k times
--   power-0 power-suc power-1   its equations, and the first power
--   power-+           a sum of exponents gives a product
--   power-⊗           the power of a product
--   power-*           the power of a power
--   power-𝟙 power-𝟘   powers of 𝟙, and positive powers of 𝟘
use Rattle.std.specs.Prelude.{ℕ, zero, suc, ◌+◌, ◌*◌, ◌≡◌}
use Rattle.std.proofs.Math.Path.{refl}
use Rattle.std.proofs.Common.{◌∙◌, mul-suc, mul-zero, suc-add, zero-add}
use Rattle.algebra.specs.Semiring.{Semiring, ring, ⊗-𝟙, 𝟙-⊗, 𝟘-⊗, ⊗_assoc, ⊗_comm}

module _ {A : Type 0} (R : Semiring A) where
  open R use {𝟘, 𝟙, ◌⊗◌}

  pub power : A → ℕ → A
  power s zero = 𝟙
  power s (suc k) = s ⊗ power s k

  pub power-0 : (s : A) → power s 0 ≡ 𝟙
  unfolding power
  power-0 s = refl

  pub power-suc : (s : A) (k : ℕ) → power s (suc k) ≡ s ⊗ power s k
  unfolding power
  power-suc s k = refl

  pub power-1 : (s : A) → power s 1 ≡ s
  unfolding power
  power-1 s = ⊗-𝟙 R s

  pub power-+ : (s : A) (i j : ℕ) → power s (i + j) ≡ power s i ⊗ power s j
  power-+ s zero j = rw (zero-add, power-0, 𝟙-⊗)
  power-+ s (suc i) j = rw (suc-add, power-suc, power-suc, power-+ s i j, ⊗_assoc)

  pub power-⊗ : (s t : A) (k : ℕ) → power (s ⊗ t) k ≡ power s k ⊗ power t k
  power-⊗ s t zero = simp (power-0, 𝟙-⊗)
  power-⊗ s t (suc k) = simp (power-suc, power-⊗ s t k, ring)

  pub power-𝟙 : (k : ℕ) → power 𝟙 k ≡ 𝟙
  power-𝟙 zero = power-0 𝟙
  power-𝟙 (suc k) = rw (power-suc, power-𝟙 k, 𝟙-⊗)

  pub power-𝟘 : (k : ℕ) → power 𝟘 (suc k) ≡ 𝟘
  power-𝟘 k = power-suc 𝟘 k ∙ 𝟘-⊗ R (power 𝟘 k)

  pub power-* : (s : A) (i j : ℕ) → power s (i * j) ≡ power (power s i) j
  power-* s i zero = rw (mul-zero, power-0, power-0)
  power-* s i (suc j) = rw (mul-suc, power-+, power-suc, power-* s i j, ⊗_comm)
