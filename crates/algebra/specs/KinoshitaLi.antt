-- Route 4, Kinoshita and Li, as laws of series in x and y: P/Q by halving the order in x. Assumes nothing.
--
-- P is a series in y alone, Q a series in x and y with constant term 𝟙 in y, V the even part of Q(x, y) Q(-x, y). r is the order in x.
-- Only powers of y below m matter, and of these Q has none above q.
--
--   fraction R N P Q      P/Q
--   fraction-graeffe      P/Q is (P/V)(x², y) Q(-x, y)
--   fraction-at-0         at x = 0 it is the quotient P/Q(0, y) in one variable
--   agree_fraction        it respects agreement of Q below y^m and x^r
--   cut-graeffe r q Q     V, cut below x^⌈r/2⌉ and to the bound on its degree
--   levels K r q d Q      K levels from order r on; at the last one P is divided by Q(0, y)
--   denominator-degree    the first bound on the degree of 1 - y g
--   fraction-evaluate     f(g) is coefficient m - 1 of P/(1 - y g), with f's list reversed as P and m its length
use Prim.Native.Nat.{ℕ, zero, suc, ◌-◌, min}
use Rattle.std.specs.Prelude.{length, List, ◌∷◌, reverse, ◌≡◌}
use Rattle.std.proofs.Math.Path.{refl, sym, ap, ap₂, fun_ext}
use Rattle.std.proofs.Common.{◌∙◌, arith}
use Rattle.definition.specs.Lists.{ceil_div}
use Rattle.definition.specs.Weight.{degree_bound}
use Rattle.algebra.specs.Agree.{agree_refl}
use Rattle.algebra.specs.Alternate.{0<2}
use Rattle.algebra.specs.Cut.{window, Degree}
use Rattle.algebra.specs.Evaluate.{evaluate, polynomial}
use Rattle.algebra.specs.Geometric.{denominator, quotient-evaluate}
use Rattle.algebra.specs.Graeffe.{squared, squaring, squared-at, opposite, graeffe, graeffe-0, squared-graeffe}
use Rattle.algebra.specs.Homomorphism.{coefficients, coefficients-at, constants, constant-term}
use Rattle.algebra.specs.Negation.{Negation}
use Rattle.algebra.specs.Plane.{Plane, AgreePlane, agree_plane-quotient, cut-plane}
use Rattle.algebra.specs.Quotient.{quotient, quotient_unique, quotient-⊠, quotient-map}
use Rattle.algebra.specs.Semiring.{Semiring, ⊗_assoc, ⊗_comm}
use Rattle.algebra.specs.Series.{Series, series, series_negation, constant-0}
use Rattle.algebra.specs.Spread.{spread-constant}

module _ {A : Type 0} (R : Semiring A) (N : Negation R) (P : Series A) where
  open series R use {𝟘, 𝟙}
  open series (series R) use {◌⊗◌ as ◌⊠◌}

  infixl 60 ◌⊠◌
  abbrev numerator : Plane A
  numerator = coefficients (constants R) P

  pub fraction : Plane A → Plane A
  fraction Q = quotient (series R) (series_negation R N) numerator Q

  squared-numerator : squared R numerator ≡ numerator
  squared-numerator = fun_ext λ j.
      rw (squared-at R, coefficients-at (constants R)) (spread-constant R 2 0<2 (P j))

  pub fraction-graeffe : (Q : Plane A) → Q 0 ≡ 𝟙 → fraction Q ≡ squared R (fraction (graeffe R N Q)) ⊠ opposite R N Q
  unfolding fraction
  fraction-graeffe Q unit = sym (quotient_unique (series R) (series_negation R N) Q unit numerator _ (
      rw (
        ⊗_assoc (series (series R)),
        ⊗_comm (series (series R)) (opposite R N Q) Q,
        ← squared-graeffe R N Q,
        ← (squaring R).map-⊗ (fraction (graeffe R N Q)) (graeffe R N Q),
        quotient-⊠ (series R) (series_negation R N) (graeffe R N Q) (graeffe-0 R N Q unit) numerator,
      )
      squared-numerator))

  pub fraction-at-0 : (Q : Plane A) (j : ℕ) → fraction Q j 0 ≡ quotient R N P (λ i. Q i 0) j
  unfolding fraction
  fraction-at-0 Q j =
      sym (coefficients-at (constant-term R) (fraction Q) j)
      ∙ ap (λ s. s j) (quotient-map (series_negation R N) N (constant-term R) numerator Q)
      ∙ ap₂ (λ s t. quotient R N s t j)
      (fun_ext λ i. rw (coefficients-at (constant-term R), coefficients-at (constants R), constant-0 R))
      (fun_ext (coefficients-at (constant-term R) Q))

  pub agree_fraction : {m r : ℕ} {Q W : Plane A} → AgreePlane m r Q W → AgreePlane m r (fraction Q) (fraction W)
  unfolding fraction
  agree_fraction h = agree_plane-quotient R N (λ j l. agree_refl _) h

  module _ (m : ℕ) where
    unfoldable pub cut-graeffe : ℕ → ℕ → Plane A → Plane A
    cut-graeffe r q Q = cut-plane R (suc (degree_bound m q)) (ceil_div r 2) (graeffe R N Q)

    unfoldable pub levels : ℕ → ℕ → ℕ → ℕ → Plane A → Plane A
    levels zero r q d Q = cut-plane R (m - d) r (window d (coefficients (constants R) (quotient R N P (λ j. Q j 0))))
    levels (suc K) r q d Q =
        cut-plane R (m - d) r (window (d - (d - q))
        (squared R (levels K (ceil_div r 2) (degree_bound m q) (d - q) (cut-graeffe r q Q)) ⊠ opposite R N Q))

module _ {A : Type 0} (R : Semiring A) (N : Negation R) (g : Series A) where
  abbrev Q₀ : Plane A
  Q₀ = denominator (series R) (series_negation R N) g

  pub denominator-degree : (m : ℕ) → Degree (series R) m (min 1 (m - 1)) Q₀
  unfolding denominator
  denominator-degree m zero l b = absurd (omega arith)
  denominator-degree m (suc zero) l b = absurd (omega arith)
  denominator-degree m (suc (suc j)) l b = refl

  pub fraction-evaluate : (x : A) (xs : List A)
      → fraction R N (polynomial R (reverse (x ∷ xs))) Q₀ (length xs) ≡ evaluate (constants R) (x ∷ xs) g
  unfolding fraction
  fraction-evaluate x xs = quotient-evaluate (series R) (series_negation R N) (constants R) x xs g
