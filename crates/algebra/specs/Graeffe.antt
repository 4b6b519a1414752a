-- Graeffe's step in two variables: Q(x, y) Q(-x, y) is V(x², y), in every characteristic. Assumes nothing.
--
--   squared R a           a(x², y); `squaring R` is the homomorphism
--   opposite R N a        a(-x, y)
--   even_part a            the even powers of x, x for x²
--   graeffe R N Q         V: the even part of Q(x, y) Q(-x, y)
--   squared-at opposite-at graeffe-at   their coefficients in y
--   squared-graeffe       V(x², y) is Q(x, y) Q(-x, y)
--   graeffe-0             V has constant term 𝟙 in y if Q has
--   opposite-degree graeffe-degree   the degree in y of Q(-x, y) is that of Q, the degree of V twice that
use Rattle.std.specs.Prelude.{ℕ, ◌+◌, ◌≡◌}
use Rattle.std.proofs.Math.Path.{refl, ap₂, fun_ext}
use Rattle.std.proofs.Common.{◌∙◌}
use Rattle.algebra.specs.Alternate.{alternation, alternate, even, odd, split, alternate-split, even-spread, even_fixed, spread-indeterminate, 0<2}
use Rattle.algebra.specs.Cut.{Degree, ⊠-degree}
use Rattle.algebra.specs.Homomorphism.{
  Homomorphism,
  coefficients,
  coefficients-at,
  coefficientwise,
  coefficients-constant,
  constant-⊗,
  map-neg,
}
use Rattle.algebra.specs.Negation.{Negation, signed}
use Rattle.algebra.specs.Plane.{Plane}
use Rattle.algebra.specs.Semiring.{Semiring, ring, 𝟙-⊗}
use Rattle.algebra.specs.Series.{series, series_negation, indeterminate, ⊞-at, ⊠-0, constant, constant-⊠-at, neg-at}
use Rattle.algebra.specs.Spread.{spread, spreading}

abbrev pub even_part : {A : Type 0} → Plane A → Plane A
even_part a j = even (a j)

abbrev odd_part : {A : Type 0} → Plane A → Plane A
odd_part a j = odd (a j)

module _ {A : Type 0} (R : Semiring A) where
  open series R use {◌⊗◌}
  open series (series R) use {◌⊗◌ as ◌⊠◌}

  infixl 60 ◌⊠◌
  abbrev pub squaring : Homomorphism (series (series R)) (series (series R))
  squaring = coefficientwise (spreading R 2 0<2)

  abbrev pub squared : Plane A → Plane A
  squared = squaring.map

  pub squared-at : (a : Plane A) (j : ℕ) → squared a j ≡ spread R 2 (a j)
  squared-at = coefficients-at (spreading R 2 0<2)

  even_part-squared : (a : Plane A) → even_part (squared a) ≡ a
  even_part-squared a = fun_ext λ j. rw squared-at (even-spread R (a j))

  -- x as a series in x and y
  x : Plane A
  x = constant (series R) (indeterminate R)

  x-⊠-at : (a : Plane A) (j : ℕ) → (x ⊠ squared a) j ≡ indeterminate R ⊗ spread R 2 (a j)
  unfolding x
  x-⊠-at a j = rw (constant-⊠-at (series R), squared-at)

  squared-x : squared x ≡ x ⊠ x
  unfolding x
  squared-x = rw (coefficients-constant (spreading R 2 0<2), spread-indeterminate R, constant-⊗ (series R))

module _ {A B : Type 0} {R : Semiring A} {S : Semiring B} (N : Negation R) (M : Negation S) (φ : Homomorphism R S) where
  open R use {◌⊕◌, ◌⊗◌}
  open N use {neg}

  conjugates : (e o z : A) (x : B) → φ.map z ≡ S.◌⊗◌ x x
      → S.◌⊗◌ (S.◌⊕◌ (φ.map e) (S.◌⊗◌ x (φ.map o))) (S.◌⊕◌ (φ.map e) (M.neg (S.◌⊗◌ x (φ.map o))))
      ≡ φ.map (e ⊗ e ⊕ neg (z ⊗ (o ⊗ o)))
  conjugates e o z x h = simp (φ.map-⊕, φ.map-⊗, map-neg φ N M, h, ring, signed)

module _ {A : Type 0} (R : Semiring A) (N : Negation R) where
  open series (series R) use {◌⊕◌ as ◌⊞◌, ◌⊗◌ as ◌⊠◌}
  open series_negation (series R) (series_negation R N) use {neg}

  infixl 50 ◌⊞◌
  infixl 60 ◌⊠◌
  abbrev pub opposite : Plane A → Plane A
  opposite = coefficients (alternation R N)

  pub opposite-at : (a : Plane A) (j : ℕ) → opposite a j ≡ alternate R N (a j)
  opposite-at = coefficients-at (alternation R N)

  pub graeffe : Plane A → Plane A
  graeffe Q = even_part (Q ⊠ opposite Q)

  pub graeffe-at : (Q : Plane A) (j : ℕ) → graeffe Q j ≡ even ((Q ⊠ opposite Q) j)
  unfolding graeffe
  graeffe-at Q j = refl

  split-plane : (Q : Plane A) → Q ≡ squared R (even_part Q) ⊞ x R ⊠ squared R (odd_part Q)
  split-plane Q = fun_ext λ j. rw (⊞-at (series R), x-⊠-at R, squared-at R) (split R (Q j))

  opposite-split : (Q : Plane A) → opposite Q ≡ squared R (even_part Q) ⊞ neg (x R ⊠ squared R (odd_part Q))
  opposite-split Q = fun_ext λ j.
      rw (opposite-at, ⊞-at (series R), neg-at (series R) (series_negation R N), x-⊠-at R, squared-at R)
      (alternate-split R N (Q j))

  pub squared-graeffe : (Q : Plane A) → squared R (graeffe Q) ≡ Q ⊠ opposite Q
  unfolding graeffe
  squared-graeffe Q =
      is_squared _ _ (
      ap₂ ◌⊠◌ (split-plane Q) (opposite-split Q)
      ∙ conjugates negation negation (squaring R) (even_part Q) (odd_part Q) (x R) (x R) (squared-x R))
    where
      negation : Negation (series (series R))
      negation = series_negation (series R) (series_negation R N)

      is_squared : (s t : Plane A) → s ≡ squared R t → squared R (even_part s) ≡ s
      is_squared s t e = rw (e, even_part-squared R t)

  pub graeffe-0 : (Q : Plane A) → Q 0 ≡ (series R).𝟙 → graeffe Q 0 ≡ (series R).𝟙
  graeffe-0 Q unit = rw (graeffe-at, ⊠-0 (series R), opposite-at, unit, (alternation R N).map-𝟙, 𝟙-⊗ (series R))
      (even_fixed R (spreading R 2 0<2).map-𝟙)

  pub opposite-degree : {m q : ℕ} {Q : Plane A} → Degree (series R) m q Q → Degree (series R) m q (opposite Q)
  opposite-degree h j l b = rw (opposite-at, h j l b, (alternation R N).map-𝟘)

  pub graeffe-degree : {m q : ℕ} {Q : Plane A} → Degree (series R) m q Q → Degree (series R) m (q + q) (graeffe Q)
  graeffe-degree {m} {q} {Q} h j l b =
      rw (graeffe-at, ⊠-degree (series R) m q q Q (opposite Q) h (opposite-degree h) j l b)
      (even_fixed R (spreading R 2 0<2).map-𝟘)
