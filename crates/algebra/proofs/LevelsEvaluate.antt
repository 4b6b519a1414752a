-- Route 4, Kinoshita and Li, as laws of series in x and y: the levels give f(g). Assumes nothing.
--
--   levels-evaluate       the levels give f(g) below x^n from every Q that agrees with 1 - y g below y^m and x^n
use Prim.Native.Nat.{ℕ, suc, ◌+◌, ◌-◌, ◌<◌, ◌≤◌, ◌^◌}
use Rattle.std.specs.Prelude.{length, List, [], ◌∷◌, reverse, ◌≡◌}
use Rattle.std.proofs.Common.{lt-suc_self, arith}
use Rattle.algebra.specs.Cut.{Degree, cut, cut_below, cut-equal}
use Rattle.algebra.specs.Evaluate.{evaluate, polynomial}
use Rattle.algebra.specs.Geometric.{denominator}
use Rattle.algebra.specs.Homomorphism.{constants}
use Rattle.algebra.specs.Negation.{Negation}
use Rattle.algebra.specs.Plane.{Plane, AgreePlane}
use Rattle.algebra.specs.Semiring.{Semiring}
use Rattle.algebra.specs.Series.{Series, series, series_negation}
use Rattle.algebra.specs.KinoshitaLi.{agree_fraction, levels, fraction-evaluate}
use Rattle.algebra.proofs.KinoshitaLi.{levels-fraction}

module _ {A : Type 0} (R : Semiring A) (N : Negation R) (g : Series A) where
  abbrev Q₀ : Plane A
  Q₀ = denominator (series R) (series_negation R N) g

  pub levels-evaluate : (f : List A) (n K q d : ℕ) (Q : Plane A) → length f ≡ suc d → 0 < n → n ≤ 2 ^ K
      → Q 0 ≡ (series R).𝟙 → Degree (series R) (length f) q Q → AgreePlane (length f) n Q Q₀
      → levels R N (polynomial R (reverse f)) (length f) K n q d Q 0 ≡ cut R n (evaluate (constants R) f g)
  levels-evaluate [] n K q d Q e a b unit h v = absurd (omega arith)
  levels-evaluate (x ∷ xs) n K q d Q e a b unit h v =
      let last : d + 0 ≡ length xs = omega arith in
      rw (
        levels-fraction R N P (suc (length xs)) K n q d Q a b unit h,
        cut_below (series R) (suc (length xs) - d) _ 0 (omega arith),
      )
      (cut-equal R (rw (← fraction-evaluate R N g x xs, last) (agree_fraction R N P v (length xs) (lt-suc_self (length xs)))))
    where
      P : Series A
      P = polynomial R (reverse (x ∷ xs))
