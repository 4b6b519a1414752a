-- Semirings without zero divisors. Assumes nothing.
--
--   NoZeroDivisors R    a product with a factor that is not 𝟘 is 𝟘 only if the other factor is
--   ⊗_cancel            a factor that is not 𝟘 cancels, where there is a negation
--   power-nonzero       powers of an element that is not 𝟘 are not 𝟘
use Rattle.std.specs.Prelude.{ℕ, zero, suc, ◌≢◌, ◌≡◌}
use Rattle.std.proofs.Common.{sym, ap, ◌∙◌}
use Rattle.algebra.specs.Negation.{Negation, equal_by_difference, ⊗-neg, ⊕-neg}
use Rattle.algebra.specs.Power.{power, power-0, power-suc}
use Rattle.algebra.specs.Semiring.{Semiring, ⊗-⊕, ⊗-𝟙, ⊗-𝟘}

module _ {A : Type 0} (R : Semiring A) where
  open R use {𝟘, ◌⊕◌, ◌⊗◌}

  abbrev pub NoZeroDivisors : Type 0
  NoZeroDivisors = (a b : A) → a ≢ 𝟘 → a ⊗ b ≡ 𝟘 → b ≡ 𝟘

  module _ (domain : NoZeroDivisors) where
    pub ⊗_cancel : (N : Negation R) (a : A) {b c : A} → a ≢ 𝟘 → a ⊗ b ≡ a ⊗ c → b ≡ c
    ⊗_cancel N a {b} {c} z e =
        equal_by_difference R N b c (domain a (b ⊕ N.neg c) z (rw (⊗-⊕ R, ⊗-neg R N, e, ⊕-neg R N)))

    pub power-nonzero : (a : A) → a ≢ 𝟘 → (k : ℕ) → power R a k ≢ 𝟘
    power-nonzero a z zero e = z (sym (⊗-𝟙 R a) ∙ ap (λ s. a ⊗ s) (sym (power-0 R a) ∙ e) ∙ ⊗-𝟘 R a)
    power-nonzero a z (suc k) e = power-nonzero a z k (domain a (power R a k) z (sym (power-suc R a k) ∙ e))
