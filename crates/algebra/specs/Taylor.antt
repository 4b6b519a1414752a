-- Taylor's formula: f(c + u) is the sum of F_i u^i, with F_i the coefficient i of f in powers of (z - c). Assumes nothing.
--
--   map-shifted         the image of F_i under a homomorphism
--   taylor              f(c + u) is the sum of F_i u^i over i < n, for every n from the length of f on
use Rattle.std.specs.Prelude.{ℕ, suc, ◌-◌, ◌<◌, ◌≤◌, List, ◌≡◌, length}
use Rattle.std.proofs.Common.{sym, ◌∙◌, le_refl, arith}
use Rattle.algebra.specs.Binomial.{binomial-above, binomial-term, binomial-term-at, binomial_theorem}
use Rattle.algebra.specs.Evaluate.{evaluate}
use Rattle.algebra.specs.Homomorphism.{Homomorphism, map-sum, map-power}
use Rattle.algebra.specs.Lists.{sum-naturals}
use Rattle.algebra.specs.Natural.{natural, natural-0, natural_along, power-naturals}
use Rattle.algebra.specs.Parts.{evaluate-coefficients}
use Rattle.algebra.specs.Power.{power}
use Rattle.algebra.specs.Semiring.{Semiring, naturals, ring, ⊗_assoc, ⊕_comm, 𝟘-⊗}
use Rattle.algebra.specs.Sum.{sum, sum_beyond, sum_cong, sum_exchange, ⊗-sum, sum-⊗}
use Rattle.definition.specs.Lists.{coefficient}
use Rattle.definition.specs.Taylor.{binomial, shifted, shifted_term}

module _ {B : Type 0} {S : Semiring B} (φ : Homomorphism naturals S) (f : List ℕ) (c : ℕ) where
  open S use {◌⊕◌, ◌⊗◌}

  map-term : (i j : ℕ) → φ.map (shifted_term f c i j)
      ≡ φ.map (coefficient f j) ⊗ (power S (φ.map c) (j - i) ⊗ natural S (binomial j i))
  unfolding shifted_term
  map-term i j =
      rw (φ.map-⊗, φ.map-⊗, ← power-naturals c (j - i), map-power φ, natural_along φ (binomial j i), ⊗_assoc S)

  pub map-shifted : (i : ℕ) → φ.map (shifted f c i) ≡ sum S (length f) (λ j. φ.map (shifted_term f c i j))
  unfolding shifted
  map-shifted i = rw (sum-naturals, map-sum φ)

  module _ (u : B) where
    -- (c + u)^j, written with more terms than it has
    expanded : (n j : ℕ) → j < n → power S (φ.map c ⊕ u) j ≡ sum S n (λ i. binomial-term S u (φ.map c) j i (j - i))
    expanded n j l =
        rw (⊕_comm S (φ.map c) u, binomial_theorem S u (φ.map c) j)
        (sym (sum_beyond S (suc j) n _ l (λ i v w. rw (binomial-term-at S, binomial-above j i v, natural-0 S, 𝟘-⊗ S))))

    pub taylor : (n : ℕ) → length f ≤ n → evaluate φ f (φ.map c ⊕ u) ≡ sum S n (λ i. φ.map (shifted f c i) ⊗ power S u i)
    taylor n l =
        evaluate-coefficients φ f (φ.map c ⊕ u) (length f) (le_refl (length f))
        ∙ sum_cong S (length f) _ (λ j. sum S n (λ i. φ.map (shifted_term f c i j) ⊗ power S u i))
        (λ j v. rw (expanded n j (omega arith), ⊗-sum S) (simp (binomial-term-at S, map-term, ring)))
        ∙ sum_exchange S (length f) n (λ j i. φ.map (shifted_term f c i j) ⊗ power S u i)
        ∙ simp (← sum-⊗ S, ← map-shifted)
