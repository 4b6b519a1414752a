-- Series in two variables x and y, their agreement and cuts. Assumes nothing.
--
-- A series in x and y is a series in y over the series in x: a j i is the coefficient of y^j x^i.
--
--   Plane A               series in x and y
--   AgreePlane m r a b    a and b have the same coefficients below y^m and x^r
--   agree_plane-⊠ agree_plane-quotient   products and quotients respect it
--   cut-plane R w r a     a below y^w and x^r, 𝟘 elsewhere
--   cut-plane-below       it agrees with a there
--   cut-plane-equal       planes that agree there have the same cut
--   cut-plane-cut         a cut is its own cut
--   cut-plane-𝟙           a cut keeps the constant term 𝟙 in y
--   cut-plane-degree      a plane that has no powers of y above q agrees with its cut there
use Rattle.std.specs.Prelude.{ℕ, suc, ◌-◌, ◌<◌, ◌≡◌}
use Rattle.std.proofs.Common.{sym, ◌∙◌, arith}
use Rattle.std.proofs.Math.Decide.{dec_lt}
use Rattle.algebra.specs.Agree.{Agree, agree_equal, agree_sum, agree_⊞, agree_⊠, agree_neg}
use Rattle.algebra.specs.Cut.{Degree, cut, cut_below, cut_beyond, cut-constant, cut-equal}
use Rattle.algebra.specs.Negation.{Negation}
use Rattle.algebra.specs.Quotient.{quotient, quotient_respects}
use Rattle.algebra.specs.Semiring.{Semiring}
use Rattle.algebra.specs.Series.{Series, series, series_negation, ⊠-at, 𝟙-constant}

abbrev pub Plane : Type 0 → Type 0
Plane A = Series (Series A)

abbrev pub AgreePlane : {A : Type 0} → ℕ → ℕ → Plane A → Plane A → Type 0
AgreePlane m r a b = (j : ℕ) → j < m → Agree r (a j) (b j)

module _ {A : Type 0} (R : Semiring A) where
  open series R use {𝟙}
  open series (series R) use {◌⊗◌ as ◌⊠◌}

  infixl 60 ◌⊠◌
  pub agree_plane-⊠ : {m r : ℕ} {a b c d : Plane A} → AgreePlane m r a b → AgreePlane m r c d
      → AgreePlane m r (a ⊠ c) (b ⊠ d)
  agree_plane-⊠ h g j l =
      rw (⊠-at (series R), ⊠-at (series R))
      (agree_sum R (suc j) (λ i u. agree_⊠ R (h i (omega arith)) (g (j - i) (omega arith))))

  pub agree_plane-quotient : (N : Negation R) {m r : ℕ} {P Q S T : Plane A} → AgreePlane m r P S → AgreePlane m r Q T
      → AgreePlane m r (quotient (series R) (series_negation R N) P Q) (quotient (series R) (series_negation R N) S T)
  agree_plane-quotient N {m} {r} =
      quotient_respects (series R) (series_negation R N) (Agree r)
      (λ a b c x y z e f g. agree_⊞ R e (agree_neg R N (agree_⊠ R f g))) m

  abbrev pub cut-plane : ℕ → ℕ → Plane A → Plane A
  cut-plane w r a = cut (series R) w (λ j. cut R r (a j))

  pub cut-plane-below : (w r : ℕ) (a : Plane A) → AgreePlane w r (cut-plane w r a) a
  cut-plane-below w r a j l = rw (cut_below (series R) w _ j l) (cut_below R r (a j))

  pub cut-plane-equal : {w r : ℕ} {a b : Plane A} → AgreePlane w r a b → cut-plane w r a ≡ cut-plane w r b
  cut-plane-equal h = cut-equal (series R) (λ j l. cut-equal R (h j l))

  pub cut-plane-cut : (w r : ℕ) (a : Plane A) → cut-plane w r (cut-plane w r a) ≡ cut-plane w r a
  cut-plane-cut w r a = cut-plane-equal (cut-plane-below w r a)

  pub cut-plane-𝟙 : (w : ℕ) {r : ℕ} (a : Plane A) → 0 < r → a 0 ≡ 𝟙 → cut-plane (suc w) r a 0 ≡ 𝟙
  cut-plane-𝟙 w a b unit =
      rw (cut_below (series R) (suc w) _ 0 (omega arith), unit, 𝟙-constant R) (cut-constant R b R.𝟙)

  pub cut-plane-degree : {m q r : ℕ} (a : Plane A) → Degree (series R) m q a → AgreePlane m r (cut-plane (suc q) r a) a
  cut-plane-degree {m} {q} {r} a h j b = at (dec_lt j (suc q))
    where
      at : Dec (j < suc q) → Agree r (cut-plane (suc q) r a j) (a j)
      at (yes c) = cut-plane-below (suc q) r a j c
      at (no c) = agree_equal (cut_beyond (series R) (suc q) _ j (omega arith) ∙ sym (h j (omega arith) b))
