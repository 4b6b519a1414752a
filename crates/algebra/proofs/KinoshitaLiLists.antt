-- Route 4 on lists: the levels over the residues modulo p give the composition. Assumes nothing.
--
-- f is the outer list, m its length, g the inner list, n the order; P is f's list reversed, a polynomial in y.
--
--   levels-composed            row 0 of the levels is the composition, from every Q that agrees with 1 - y g below y^m and x^n
--   levels-list-composed       the levels on lists give the composition
use Prim.Native.Nat.{ℕ, suc, ◌-◌, ◌<◌, ◌≤◌, ◌^◌, min}
use mathlib.Core.List.{List, [], ◌∷◌, map, reverse, reverse_aux}
use Rattle.std.specs.Prelude.{◌≡◌, refl, length}
use Rattle.std.proofs.Math.Path.{ap, fun_ext}
use Rattle.std.proofs.Common.{◌∙◌}
use Rattle.std.proofs.lemmas.List.{length-map}
use Rattle.std.proofs.Math.ListN.{get_or-map}
use native.Mathlib.Omega.{arith}
use Rattle.algebra.specs.Bridge.{series_of, listed, listed_agree, composed-listed}
use Rattle.algebra.specs.Cut.{Degree, cut, cut_below, cut_beyond}
use Rattle.algebra.specs.Evaluate.{evaluate, evaluate-map, polynomial}
use Rattle.algebra.specs.Geometric.{denominator}
use Rattle.algebra.specs.Halvings.{halvings-covers}
use Rattle.algebra.specs.Homomorphism.{coefficients-at, constants}
use Rattle.algebra.specs.KinoshitaLi.{levels, denominator-degree}
use Rattle.algebra.proofs.LevelsEvaluate.{levels-evaluate}
use Rattle.algebra.specs.Negation.{Negation}
use Rattle.algebra.specs.Plane.{Plane, AgreePlane, cut-plane, cut-plane-𝟙, cut-plane-degree}
use Rattle.algebra.specs.PlaneBridge.{plane_of, listed-plane-row, plane_of_plane, reduced-denominator}
use Rattle.algebra.specs.Residue.{Residue, residue, residue-0, residues, residues_negation, reduction}
use Rattle.algebra.specs.Semiring.{Semiring}
use Rattle.algebra.specs.Series.{Series, series, series_negation}
use Rattle.definition.specs.KinoshitaLi as Plain
use Rattle.definition.specs.KinoshitaLi.{plane}
use Rattle.definition.specs.Lists.{coefficient}
use Rattle.definition.specs.Substitution.{composed}
use Rattle.definition.specs.Weight.{halvings}
use Rattle.algebra.specs.KinoshitaLiLists.{levels-list, levels-listed}

-- `map` and `reverse` commute; ys is what is reversed already
map-reverse : {A B : Type 0} (φ : A → B) (xs ys : List A) → map φ (reverse_aux xs ys) ≡ reverse_aux (map φ xs) (map φ ys)
map-reverse φ [] ys = refl
map-reverse φ (x ∷ xs) ys = map-reverse φ xs (x ∷ ys)

module _ {p : ℕ} (l : 0 < p) where
  abbrev R : Semiring (Residue p)
  R = residues l

  abbrev N : Negation R
  N = residues_negation l

  polynomial-residues : (xs : List ℕ) → polynomial R (map (residue l) xs) ≡ series_of l xs
  unfolding coefficient
  polynomial-residues xs = fun_ext λ k. rw (coefficients-at (reduction l), ← residue-0 l) (get_or-map (residue l) xs k 0)

  module _ (f : List ℕ) where
    abbrev m : ℕ
    m = length f

    abbrev P : Series (Residue p)
    P = series_of l (reverse f)

    module _ (g : List ℕ) where
      abbrev Q₀ : Plane (Residue p)
      Q₀ = denominator (series R) (series_negation R N) (series_of l g)

      pub levels-composed : (n K q d : ℕ) (Q : Plane (Residue p)) → m ≡ suc d → 0 < n → n ≤ 2 ^ K
          → Q 0 ≡ (series R).𝟙 → Degree (series R) m q Q → AgreePlane m n Q Q₀
          → listed n (levels R N P m K n q d Q 0) ≡ composed p n f g
      levels-composed n K q d Q e a b unit h v =
          rw (composed-listed l, ← evaluate-map (constants R) (reduction l) f (series_of l g), row)
          (listed_agree (cut_below R n _))
        where
          row : levels R N P m K n q d Q 0 ≡ cut R n (evaluate (constants R) (map (residue l) f) (series_of l g))
          row =
              rw (length-map, ← map-reverse (residue l) f [], polynomial-residues) at
              (levels-evaluate R N (series_of l g) (map (residue l) f) n K q d Q (rw length-map e) a b unit (rw length-map h)
              (rw length-map v))

      module _ (n : ℕ) (e : 0 < m) (a : 0 < n) where
        abbrev q₀ : ℕ
        q₀ = min 1 (m - 1)

        -- the list of 1 - y g below y^(q + 1) and x^n
        abbrev Q₁ : List ℕ
        Q₁ = plane n (suc q₀) (Plain.denominator p g)

        pub levels-list-composed : levels-list p f (halvings n) n q₀ (m - 1) Q₁ ≡ composed p n f g
        unfolding denominator
        levels-list-composed =
            let w : m - (m - 1) ≡ 1 = omega arith in
            rw (levels-listed l f (halvings n) n q₀ (m - 1) Q₁ a (halvings-covers n), w, listed-plane-row l)
            (levels-composed n (halvings n) q₀ (m - 1) (plane_of l n Q₁) (omega arith) a (halvings-covers n) unit
            (rw first (λ j b c. cut_beyond (series R) (suc q₀) _ j b))
            (rw first (cut-plane-degree R Q₀ (denominator-degree R N (series_of l g) m))))
          where
            first : plane_of l n Q₁ ≡ cut-plane R (suc q₀) n Q₀
            first =
                plane_of_plane l n (suc q₀) (Plain.denominator p g)
                ∙ ap (cut-plane R (suc q₀) n) (reduced-denominator l g)

            unit : plane_of l n Q₁ 0 ≡ (series R).𝟙
            unit = rw first (cut-plane-𝟙 R q₀ Q₀ a refl)
