-- Route 4 on lists: the levels over the residues modulo p give the composition. Assumes nothing.
--
-- f is the outer list, m its length, g the inner list, n the order; P is f's list reversed, a polynomial in y.
--
--   graeffe-list p m r q Q     V as a list, from the list of Q in rows of r places
--   levels-list p f K r q d Q  K levels on lists; at the last one, of rows of one place, P is divided by Q(0, y)
--   graeffe-listed levels-listed   these lists are those of the algebra over the residues
use Prim.Native.Nat.{ℕ, zero, suc, ◌+◌, ◌-◌, ◌<◌, ◌≤◌, ◌^◌}
use mathlib.Core.List.{List, reverse}
use Rattle.std.specs.Prelude.{◌≡◌, length, drop}
use Rattle.std.proofs.Math.Path.{sym, ap, fun_ext}
use Rattle.std.proofs.Common.{ap₂, ◌∙◌, length-drop}
use Rattle.std.proofs.Math.Seq.{get_or-drop}
use native.Mathlib.Omega.{arith}
use Rattle.algebra.specs.Agree.{agree_sym}
use Rattle.algebra.specs.Bridge.{series_of, listed, length-listed, coefficient-listed, listed_agree}
use Rattle.algebra.specs.Cut.{window}
use Rattle.algebra.specs.Graeffe.{graeffe-at, squared}
use Rattle.algebra.specs.Homomorphism.{coefficients-at, constants}
use Rattle.algebra.specs.KinoshitaLi.{levels, cut-graeffe}
use Rattle.algebra.specs.Lists.{lists-equal}
use Rattle.algebra.specs.Negation.{Negation}
use Rattle.algebra.specs.Plane.{Plane, cut-plane, cut-plane-below, cut-plane-cut}
use Rattle.algebra.specs.PlaneBridge.{plane_of, reduced-plane, listed-plane, listed-plane_agree, listed-plane-column, plane_of_plane, plane_of_listed, reduced-even_part, reduced-opposite, reduced-squared, reduced-cut_product2_at, window_cut_product2_listed, reduced-column, quotient-listed}
use Rattle.algebra.specs.Residue.{Residue, residues, residues_negation}
use Rattle.algebra.specs.Semiring.{Semiring}
use Rattle.algebra.specs.Series.{Series, series, constant-0}
use Rattle.definition.specs.KinoshitaLi as Plain
use Rattle.definition.specs.KinoshitaLi.{plane_at, plane, cut_product2_at}
use Rattle.definition.specs.Lists.{coefficient, ceil_div}
use Rattle.definition.specs.Weight.{degree_bound}

unfoldable pub graeffe-list : ℕ → ℕ → ℕ → ℕ → List ℕ → List ℕ
graeffe-list p m r q Q =
    plane (ceil_div r 2) (suc (degree_bound m q)) (Plain.even_part (cut_product2_at p (plane_at r Q) (Plain.opposite p (plane_at r Q))))

unfoldable pub levels-list : ℕ → List ℕ → ℕ → ℕ → ℕ → ℕ → List ℕ → List ℕ
levels-list p f zero r q d Q = drop d (Plain.quotient p (length f) (coefficient (Plain.numerator f)) (λ j. plane_at r Q j 0))
levels-list p f (suc K) r q d Q =
    plane r (length f - d) (Plain.window (d - (d - q)) (cut_product2_at p
    (Plain.squared (plane_at (ceil_div r 2)
    (levels-list p f K (ceil_div r 2) (degree_bound (length f) q) (d - q) (graeffe-list p (length f) r q Q))))
    (Plain.opposite p (plane_at r Q))))

module _ {p : ℕ} (l : 0 < p) where
  abbrev R : Semiring (Residue p)
  R = residues l

  abbrev N : Negation R
  N = residues_negation l

  drop-listed : (m d : ℕ) (s : Series (Residue p)) → drop d (listed m s) ≡ listed (m - d) (window d s)
  unfolding coefficient
  drop-listed m d s =
      lists-equal (m - d) (drop d (listed m s)) (listed (m - d) (window d s))
      (rw (length-drop, length-listed)) (length-listed (m - d) (window d s))
      (λ k b.
      get_or-drop d (listed m s) k 0
      ∙ coefficient-listed m s (d + k) (omega arith)
      ∙ sym (coefficient-listed (m - d) (window d s) k b))

  module _ (f : List ℕ) where
    abbrev m : ℕ
    m = length f

    abbrev P : Series (Residue p)
    P = series_of l (reverse f)

    pub graeffe-listed : (r q : ℕ) (Q : List ℕ)
        → plane_of l (ceil_div r 2) (graeffe-list p m r q Q) ≡ cut-graeffe R N P m r q (plane_of l r Q)
    unfolding graeffe-list cut-graeffe
    graeffe-listed r q Q =
        plane_of_plane l (ceil_div r 2) (suc (degree_bound m q)) _
        ∙ ap (cut-plane R (suc (degree_bound m q)) (ceil_div r 2))
        (rw (reduced-even_part l, reduced-cut_product2_at l, reduced-opposite l)
        (sym (fun_ext (graeffe-at R N (plane_of l r Q)))))

    plane_of_levels : (K r q d : ℕ) (Q : Plane (Residue p))
        → plane_of l r (listed-plane r (m - d) (levels R N P m K r q d Q)) ≡ levels R N P m K r q d Q
    unfolding levels
    plane_of_levels zero r q d Q = plane_of_listed l r (m - d) _ ∙ cut-plane-cut R (m - d) r _
    plane_of_levels (suc K) r q d Q = plane_of_listed l r (m - d) _ ∙ cut-plane-cut R (m - d) r _

    last_listed : (q d : ℕ) (Q : List ℕ)
        → levels-list p f 0 1 q d Q ≡ listed-plane 1 (m - d) (levels R N P m 0 1 q d (plane_of l 1 Q))
    unfolding levels-list levels Plain.numerator
    last_listed q d Q =
        rw (
          quotient-listed l (coefficient (reverse f)) (λ j. plane_at 1 Q j 0) m,
          listed-plane-column l,
          drop-listed,
          reduced-column l (plane_at 1 Q),
        )
        (listed_agree λ j b.
        sym (cut-plane-below R (m - d) 1 _ j b 0 (omega arith) ∙ rw (coefficients-at (constants R), constant-0 R)))

    -- the result U of the level below, as a list, with x^2 for x
    squared-listed : (K h q d : ℕ) (U Q : List ℕ) (G : Plane (Residue p))
        → U ≡ listed-plane h (m - d) (levels R N P m K h q d (plane_of l h Q)) → plane_of l h Q ≡ G
        → reduced-plane l (Plain.squared (plane_at h U)) ≡ squared R (levels R N P m K h q d G)
    squared-listed K h q d U Q G below v =
        reduced-squared l (plane_at h U)
        ∙ ap (squared R) (ap (plane_of l h) below ∙ plane_of_levels K h q d _ ∙ ap (levels R N P m K h q d) v)

    pub levels-listed : (K r q d : ℕ) (Q : List ℕ) → 0 < r → r ≤ 2 ^ K
        → levels-list p f K r q d Q ≡ listed-plane r (m - d) (levels R N P m K r q d (plane_of l r Q))
    unfolding levels-list levels ceil_div
    levels-listed zero r q d Q a b = let e : r ≡ 1 = omega arith in rw e (last_listed q d Q)
    levels-listed (suc K) r q d Q a b =
        window_cut_product2_listed l r (m - d) (d - (d - q)) _ _
        ∙ ap (λ s. listed-plane r (m - d) (window (d - (d - q)) s))
        (ap₂ (series (series R)).◌⊗◌
        (squared-listed K (ceil_div r 2) (degree_bound m q) (d - q) _ (graeffe-list p m r q Q) _
        (levels-listed K (ceil_div r 2) (degree_bound m q) (d - q) (graeffe-list p m r q Q) (omega arith) (omega arith))
        (graeffe-listed r q Q))
        (reduced-opposite l (plane_at r Q)))
        ∙ listed-plane_agree r (m - d) (λ j c. agree_sym (cut-plane-below R (m - d) r _ j c))
