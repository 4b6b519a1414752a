-- Karatsuba's rule: the even and the odd part of a product from three products of parts of its factors. Assumes nothing.
--
--   sums       (e + o) (f + u) is e u + o f + (e f + o u)
--   subtracted a + (b + c) - b - c is a
--   even-⊠     the even part of a b is E E' + x O O', with E, E' and O, O' the even and the odd parts of a and b
--   odd-⊠      its odd part is E O' + O E'
--   middle     which is (E + O) (E' + O') - E E' - O O'
use Rattle.std.specs.Prelude.{◌≡◌}
use Rattle.std.proofs.Common.{ap, ap₂, ◌∙◌}
use Rattle.algebra.specs.Alternate.{even, odd, split, even-split, odd-split, spread-indeterminate, 0<2}
use Rattle.algebra.specs.Homomorphism.{Homomorphism}
use Rattle.algebra.specs.Negation.{Negation, ⊕-neg, neg-⊕}
use Rattle.algebra.specs.Semiring.{Semiring, ring, ⊕_assoc, ⊕-𝟘}
use Rattle.algebra.specs.Series.{Series, series, series_negation, indeterminate}
use Rattle.algebra.specs.Spread.{spread, spreading}

module _ {A B : Type 0} {R : Semiring A} {S : Semiring B} (φ : Homomorphism R S) where
  open R use {◌⊕◌, ◌⊗◌}

  parts : (e o f u z : A) (x : B) → φ.map z ≡ S.◌⊗◌ x x
      → S.◌⊗◌ (S.◌⊕◌ (φ.map e) (S.◌⊗◌ x (φ.map o))) (S.◌⊕◌ (φ.map f) (S.◌⊗◌ x (φ.map u)))
      ≡ S.◌⊕◌ (φ.map (e ⊗ f ⊕ z ⊗ (o ⊗ u))) (S.◌⊗◌ x (φ.map (e ⊗ u ⊕ o ⊗ f)))
  parts e o f u z x h = simp (φ.map-⊕, φ.map-⊗, h, ring)

module _ {A : Type 0} (R : Semiring A) where
  open R use {◌⊕◌, ◌⊗◌}

  pub sums : (e o f u : A) → (e ⊕ o) ⊗ (f ⊕ u) ≡ e ⊗ u ⊕ o ⊗ f ⊕ (e ⊗ f ⊕ o ⊗ u)
  sums e o f u = simp ring

module _ {A : Type 0} {R : Semiring A} (N : Negation R) where
  open R use {◌⊕◌, ◌⊗◌}
  open N use {neg}

  pub subtracted : (a b c : A) → a ⊕ (b ⊕ c) ⊕ neg b ⊕ neg c ≡ a
  subtracted a b c = rw (⊕_assoc R (a ⊕ (b ⊕ c)) (neg b) (neg c), ← neg-⊕ R N, ⊕_assoc R, ⊕-neg R N, ⊕-𝟘 R)

  differences : (e o f u : A) → e ⊗ u ⊕ o ⊗ f ≡ (e ⊕ o) ⊗ (f ⊕ u) ⊕ neg (e ⊗ f) ⊕ neg (o ⊗ u)
  differences e o f u = rw (sums R, subtracted (e ⊗ u ⊕ o ⊗ f) (e ⊗ f) (o ⊗ u))

module _ {A : Type 0} (R : Semiring A) (a b : Series A) where
  open series R use {◌⊕◌ as ◌⊞◌, ◌⊗◌ as ◌⊠◌}

  infixl 50 ◌⊞◌
  infixl 60 ◌⊠◌
  product-split : a ⊠ b
      ≡ spread R 2 (even a ⊠ even b ⊞ indeterminate R ⊠ (odd a ⊠ odd b)) ⊞ indeterminate R ⊠ spread R 2 (even a ⊠ odd b ⊞ odd a ⊠ even b)
  product-split =
      ap₂ ◌⊠◌ (split R a) (split R b)
      ∙ parts (spreading R 2 0<2) (even a) (odd a) (even b) (odd b) (indeterminate R) (indeterminate R) (spread-indeterminate R)

  pub even-⊠ : even (a ⊠ b) ≡ even a ⊠ even b ⊞ indeterminate R ⊠ (odd a ⊠ odd b)
  even-⊠ = ap even product-split ∙ even-split R _ _

  pub odd-⊠ : odd (a ⊠ b) ≡ even a ⊠ odd b ⊞ odd a ⊠ even b
  odd-⊠ = ap odd product-split ∙ odd-split R _ _

  module _ (N : Negation R) where
    open series_negation R N use {neg}

    pub middle : odd (a ⊠ b) ≡ (even a ⊞ odd a) ⊠ (even b ⊞ odd b) ⊞ neg (even a ⊠ even b) ⊞ neg (odd a ⊠ odd b)
    middle = odd-⊠ ∙ differences (series_negation R N) (even a) (odd a) (even b) (odd b)
