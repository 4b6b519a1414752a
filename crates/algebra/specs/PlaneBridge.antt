-- The bridge between the lists of route 4 and the series in x and y over the residues modulo p. Assumes nothing.
--
-- The definitions compute over the natural numbers, in rows of r places, and take the remainder last, so each of their lists is
-- `listed-plane r w s`: the coefficients below y^w and x^r of a series s in x and y over the residues.
--
--   reduced-plane l a      the series of the residues of a function of two places
--   plane_of l r xs        the series of the residues that a list holds in rows of r places
--   listed-plane r w s     the coefficients of s below y^w and x^r, as a list in rows of r places
--   listed-plane_agree     the lists of two series that agree below y^w and x^r are equal
--   listed-plane-row listed-plane-column   a list of one row, and a list of rows of one place
--   plane_of_plane plane_of_listed   the series of a list that was read off a series is the cut of that series
--   reduced-plane-listed   a table of remainders
--   product2-series        over the natural numbers, the product of the definitions is that of the algebra
--   reduced-product2 reduced-cut_product2_at reduced-opposite reduced-even_part reduced-squared reduced-window
--   reduced-denominator    after reduction, the operations of the definitions are those of the algebra
--   reduced-column         the terms without x
--   window_cut_product2_listed quotient-listed   each list of the definitions, read off a series
use Prim.Native.Nat.{ℕ, zero, suc, ◌+◌, ◌-◌, ◌%◌, ◌<◌}
use Rattle.std.specs.Prelude.{Bool, List, ◌≡◌, eqb}
use Rattle.std.proofs.Math.Bool.{true, false, cond}
use Rattle.std.proofs.Math.Path.{refl, sym, ap, fun_ext}
use Rattle.std.proofs.Common.{◌∙◌}
use Rattle.std.proofs.Math.Nat.{mod-mod}
use Rattle.algebra.specs.Alternate.{alternate-at}
use Rattle.algebra.specs.Bridge.{reduced, series_of, listed, small-listed, product-series, constant-series}
use Rattle.algebra.specs.Cut.{cut, coefficients-cut}
use Rattle.algebra.specs.Cut as Cut
use Rattle.algebra.specs.Geometric as Geometric
use Rattle.algebra.specs.Graeffe.{opposite-at, squared-at}
use Rattle.algebra.specs.Graeffe as Graeffe
use Rattle.algebra.specs.Homomorphism.{coefficients, coefficients-at, coefficientwise, map-sum}
use Rattle.algebra.specs.Lists.{coefficient-tabulate, sum-naturals}
use Rattle.algebra.specs.Negation.{Negation}
use Rattle.algebra.specs.Plane.{Plane, AgreePlane, cut-plane}
use Rattle.algebra.specs.Quotient.{quotient-next}
use Rattle.algebra.specs.Quotient as Quotient
use Rattle.algebra.specs.Residue.{
  Residue,
  residue,
  residue-value,
  residue-own,
  residue-0,
  residue-equal,
  residue-+,
  residue-*,
  residue-negative,
  residues,
  residues_negation,
  reduction,
}
use Rattle.algebra.specs.Rows.{plane_agree, plane_at-cut, plane-row, plane-column}
use Rattle.algebra.specs.Semiring.{Semiring, naturals}
use Rattle.algebra.specs.Series.{Series, series, series_negation, neg-at, sum-at, ⊠-at, 𝟘-at, 𝟙-constant}
use Rattle.algebra.specs.Spread.{spread-naturals, coefficients-spread}
use Rattle.algebra.specs.Sum.{sum_cong}
use Rattle.definition.specs.KinoshitaLi as Plain
use Rattle.definition.specs.KinoshitaLi.{plane_at, plane, negative, product2, product2_term, cut_product2_at, quotient_term, quotient_next}
use Rattle.definition.specs.Lists.{sum, tabulate, coefficient}

-- over the natural numbers
pub product2-series : (a b : Plane ℕ) → product2 a b ≡ (series (series naturals)).◌⊗◌ a b
unfolding product2 product2_term
product2-series a b = fun_ext λ j. fun_ext λ i.
    rw (⊠-at (series naturals), sum-at naturals)
    (sum-naturals (suc j) (product2_term a b j i)
    ∙ sum_cong naturals (suc j) _ _ (λ l c. ap (λ s. s i) (product-series (a l) (b (j - l)))))

module _ {p : ℕ} where
  abbrev values : Plane (Residue p) → Plane ℕ
  values s j i = (s j i).0

  pub listed-plane : ℕ → ℕ → Plane (Residue p) → List ℕ
  listed-plane r w s = plane r w (values s)

  module _ (r w : ℕ) where
    pub listed-plane_agree : {s t : Plane (Residue p)} → AgreePlane w r s t → listed-plane r w s ≡ listed-plane r w t
    unfolding listed-plane
    listed-plane_agree h = plane_agree r w (λ j b i c. ap (λ x. x.0) (h j b i c))

module _ {p : ℕ} (l : 0 < p) where
  abbrev R : Semiring (Residue p)
  R = residues l

  abbrev N : Negation R
  N = residues_negation l

  abbrev pub reduced-plane : Plane ℕ → Plane (Residue p)
  reduced-plane = coefficients (coefficientwise (reduction l))

  abbrev pub plane_of : ℕ → List ℕ → Plane (Residue p)
  plane_of r xs = reduced-plane (plane_at r xs)

  reduced-plane-row : (a : Plane ℕ) (j : ℕ) → reduced-plane a j ≡ reduced l (a j)
  reduced-plane-row = coefficients-at (coefficientwise (reduction l))

  reduced-plane-at : (a : Plane ℕ) (j i : ℕ) → reduced-plane a j i ≡ residue l (a j i)
  reduced-plane-at a j i = rw reduced-plane-row (coefficients-at (reduction l) (a j) i)

  reduced-plane-value : (a : Plane ℕ) (j i : ℕ) → (reduced-plane a j i).0 ≡ a j i % p
  reduced-plane-value a j i = ap (λ x. x.0) (reduced-plane-at a j i) ∙ residue-value l (a j i)

  reduced-values : (s : Plane (Residue p)) → reduced-plane (values s) ≡ s
  reduced-values s = fun_ext λ j. fun_ext λ i. reduced-plane-at (values s) j i ∙ residue-own l (s j i)

  values_listed : (n : ℕ) (s : Series (Residue p)) → tabulate n (λ k. (s k).0) ≡ listed n s
  values_listed n s =
      small-listed l n (λ k. (s k).0) (λ k b. (s k).1)
      ∙ ap (listed n) (fun_ext λ k. coefficients-at (reduction l) (λ k. (s k).0) k ∙ residue-own l (s k))

  pub listed-plane-row : (r : ℕ) (s : Plane (Residue p)) → listed-plane r 1 s ≡ listed r (s 0)
  unfolding listed-plane
  listed-plane-row r s = plane-row r (values s) ∙ values_listed r (s 0)

  pub listed-plane-column : (w : ℕ) (s : Plane (Residue p)) → listed-plane 1 w s ≡ listed w (λ j. s j 0)
  unfolding listed-plane
  listed-plane-column w s = plane-column w (values s) ∙ values_listed w (λ j. s j 0)

  pub plane_of_plane : (r w : ℕ) (a : Plane ℕ) → plane_of r (plane r w a) ≡ cut-plane R w r (reduced-plane a)
  plane_of_plane r w a =
      rw (plane_at-cut r w a, coefficients-cut (coefficientwise (reduction l)))
      (ap (cut (series R) w) (fun_ext λ j. rw (reduced-plane-row, reduced-plane-row) (coefficients-cut (reduction l) r (a j))))

  pub plane_of_listed : (r w : ℕ) (s : Plane (Residue p)) → plane_of r (listed-plane r w s) ≡ cut-plane R w r s
  unfolding listed-plane
  plane_of_listed r w s = plane_of_plane r w (values s) ∙ ap (cut-plane R w r) (reduced-values s)

  pub reduced-plane-listed : (r w : ℕ) (a : Plane ℕ) → plane r w (λ j i. a j i % p) ≡ listed-plane r w (reduced-plane a)
  unfolding listed-plane
  reduced-plane-listed r w a = plane_agree r w (λ j b i c. sym (reduced-plane-value a j i))

  reduced_remainder : (a : Plane ℕ) → reduced-plane (λ j i. a j i % p) ≡ reduced-plane a
  reduced_remainder a = fun_ext λ j. fun_ext λ i.
      rw (reduced-plane-at, reduced-plane-at) ((residue-equal l (a j i % p) (a j i)).1 (mod-mod (a j i) p))

  pub reduced-product2 : (a b : Plane ℕ)
      → reduced-plane (product2 a b) ≡ (series (series R)).◌⊗◌ (reduced-plane a) (reduced-plane b)
  reduced-product2 a b = rw (product2-series a b) ((coefficientwise (coefficientwise (reduction l))).map-⊗ a b)

  pub reduced-opposite : (a : Plane ℕ) → reduced-plane (Plain.opposite p a) ≡ Graeffe.opposite R N (reduced-plane a)
  unfolding Plain.opposite
  reduced-opposite a = fun_ext λ j. fun_ext λ i.
      rw (reduced-plane-at, opposite-at R N, alternate-at R N, reduced-plane-at) (at (eqb (i % 2) 0) (a j i))
    where
      at : (b : Bool) (c : ℕ) → residue l (cond b c (negative p c)) ≡ cond b (residue l c) (N.neg (residue l c))
      at true c = refl
      at false c = residue-negative l c

  pub reduced-even_part : (a : Plane ℕ) → reduced-plane (Plain.even_part a) ≡ Graeffe.even_part (reduced-plane a)
  unfolding Plain.even_part
  reduced-even_part a = fun_ext λ j. fun_ext λ i. rw (reduced-plane-at, reduced-plane-at)

  pub reduced-squared : (a : Plane ℕ) → reduced-plane (Plain.squared a) ≡ Graeffe.squared R (reduced-plane a)
  unfolding Plain.squared
  reduced-squared a = fun_ext λ j.
      rw (squared-at R, reduced-plane-row, reduced-plane-row, spread-naturals)
      (coefficients-spread (reduction l) 2 (a j))

  pub reduced-window : (e : ℕ) (a : Plane ℕ) → reduced-plane (Plain.window e a) ≡ Cut.window e (reduced-plane a)
  unfolding Plain.window
  reduced-window e a = fun_ext λ j. fun_ext λ i. rw (reduced-plane-at, reduced-plane-at)

  pub reduced-column : (a : Plane ℕ) → reduced l (λ j. a j 0) ≡ (λ j. reduced-plane a j 0)
  reduced-column a = fun_ext λ j. coefficients-at (reduction l) (λ j. a j 0) j ∙ sym (reduced-plane-at a j 0)

  pub reduced-denominator : (g : List ℕ)
      → reduced-plane (Plain.denominator p g) ≡ Geometric.denominator (series R) (series_negation R N) (series_of l g)
  unfolding Plain.denominator Geometric.denominator
  reduced-denominator g = fun_ext at
    where
      at : (j : ℕ)
          → reduced-plane (Plain.denominator p g) j ≡ Geometric.denominator (series R) (series_negation R N) (series_of l g) j
      at zero = rw (reduced-plane-row, constant-series 1, ← 𝟙-constant naturals) (coefficientwise (reduction l)).map-𝟙
      at (suc zero) = fun_ext λ i.
          rw (reduced-plane-at, neg-at R N, coefficients-at (reduction l)) (residue-negative l (coefficient g i))
      at (suc (suc j)) = fun_ext λ i. rw (reduced-plane-at, 𝟘-at R) (residue-0 l)

  pub reduced-cut_product2_at : (a b : Plane ℕ)
      → reduced-plane (cut_product2_at p a b) ≡ (series (series R)).◌⊗◌ (reduced-plane a) (reduced-plane b)
  unfolding cut_product2_at
  reduced-cut_product2_at a b = reduced_remainder (product2 a b) ∙ reduced-product2 a b

  pub window_cut_product2_listed : (r w e : ℕ) (a b : Plane ℕ)
      → plane r w (Plain.window e (cut_product2_at p a b))
      ≡ listed-plane r w (Cut.window e ((series (series R)).◌⊗◌ (reduced-plane a) (reduced-plane b)))
  unfolding Plain.window cut_product2_at
  window_cut_product2_listed r w e a b =
      reduced-plane-listed r w (Plain.window e (product2 a b))
      ∙ ap (listed-plane r w) (reduced-window e (product2 a b) ∙ ap (Cut.window e) (reduced-product2 a b))

  module _ (a b : ℕ → ℕ) where
    U : Series (Residue p)
    U = Quotient.quotient R N (reduced l a) (reduced l b)

    quotient-residue : (k : ℕ) (u : List ℕ) → ((i : ℕ) → i < k → residue l (coefficient u i) ≡ U i)
        → residue l (a k + sum k (quotient_term p b u k)) ≡ U k
    unfolding quotient_term U
    quotient-residue k u h =
        rw (quotient-next R N, residue-+ l, sum-naturals, map-sum (reduction l), coefficients-at (reduction l))
        (ap (R.◌⊕◌ (residue l (a k)))
        (sum_cong R k _ _ (λ i c. rw (residue-* l, residue-negative l, h i c, coefficients-at (reduction l)))))

    quotient-table : (k : ℕ) → Plain.quotient p k a b ≡ tabulate k (λ i. (U i).0)
    unfolding Plain.quotient quotient_next tabulate
    quotient-table zero = refl
    quotient-table (suc k) =
        rw (quotient-table k, ← residue-value l, quotient-residue k (tabulate k (λ i. (U i).0)) earlier)
      where
        earlier : (i : ℕ) → i < k → residue l (coefficient (tabulate k (λ i. (U i).0)) i) ≡ U i
        earlier i c = rw (coefficient-tabulate k (λ i. (U i).0) i c) (residue-own l (U i))

    pub quotient-listed : (k : ℕ) → Plain.quotient p k a b ≡ listed k (Quotient.quotient R N (reduced l a) (reduced l b))
    unfolding U
    quotient-listed k = quotient-table k ∙ values_listed k U
