-- Route 4, Kinoshita and Li, as laws of series in x and y: the levels give P/Q. Assumes nothing.
--
-- P, Q, V, r, m and q are as in specs/KinoshitaLi.
--
--   level                 one level: from the powers of y from e to m - 1 of P/V, below x^⌈r/2⌉, those from d = e + c to m - 1 of P/Q,
--                         below x^r, if Q has no powers of y above c, or e is 0
--   levels-fraction       the levels give the powers of y from d to m - 1 of P/Q, below x^r
use Prim.Native.Nat.{ℕ, zero, suc, ◌+◌, ◌-◌, ◌<◌, ◌≤◌, ◌^◌}
use Rattle.std.specs.Prelude.{◌≡◌}
use Rattle.std.proofs.Math.Path.{sym}
use Rattle.std.proofs.Common.{lt-suc_self, arith}
use Rattle.definition.specs.Lists.{ceil_div}
use Rattle.definition.specs.Weight.{degree_bound}
use Rattle.algebra.specs.Agree.{Agree, agree_1, agree_refl, agree_trans, agree_weaken}
use Rattle.algebra.specs.Alternate.{0<2}
use Rattle.algebra.specs.Cut.{window, ⊠-window, Degree, cut_beyond}
use Rattle.algebra.specs.Graeffe.{squared, squared-at, opposite, opposite-degree, graeffe, graeffe-0, graeffe-degree}
use Rattle.algebra.specs.Homomorphism.{coefficients, coefficients-at, constants}
use Rattle.algebra.specs.Negation.{Negation}
use Rattle.algebra.specs.Plane.{Plane, AgreePlane, agree_plane-⊠, cut-plane, cut-plane-below, cut-plane-degree, cut-plane-equal, cut-plane-𝟙}
use Rattle.algebra.specs.Quotient.{quotient}
use Rattle.algebra.specs.Semiring.{Semiring, ⊗-𝟘}
use Rattle.algebra.specs.Series.{Series, series, constant-0}
use Rattle.algebra.specs.Spread.{spread_agree}
use Rattle.algebra.specs.KinoshitaLi.{fraction, fraction-graeffe, fraction-at-0, agree_fraction, cut-graeffe, levels}

module _ {A : Type 0} (R : Semiring A) (N : Negation R) (P : Series A) where
  open series R use {𝟘, 𝟙}
  open series (series R) use {◌⊗◌ as ◌⊠◌}

  infixl 60 ◌⊠◌
  module _ (m : ℕ) where
    pub level : {r d e c : ℕ} (Q W U : Plane A) → Q 0 ≡ 𝟙 → d ≡ e + c → (0 < e → Degree (series R) m c Q)
        → AgreePlane m (ceil_div r 2) W (graeffe R N Q)
        → ((j : ℕ) → e + j < m → Agree (ceil_div r 2) (U j) (fraction R N P W (e + j)))
        → (j : ℕ) → d + j < m → Agree r ((squared R U ⊠ opposite R N Q) (c + j)) (fraction R N P Q (d + j))
    level {r} {d} {e} {c} Q W U unit s degree v u j l =
        let f : d + j ≡ e + (c + j) = omega arith in
        rw (f, fraction-graeffe R N P Q unit, ⊠-window (series R) e (c + j) (squared R S) (opposite R N Q) vanishes)
        (agree_plane-⊠ R windows (λ i b. agree_refl _) (c + j) (lt-suc_self (c + j)))
      where
        S : Plane A
        S = fraction R N P (graeffe R N Q)

        vanishes : (i : ℕ) → i < e → (series R).◌⊗◌ (squared R S i) (opposite R N Q (e + (c + j) - i)) ≡ 𝟘
        vanishes i b = rw (opposite-degree R N (degree (omega arith)) (e + (c + j) - i) (omega arith) (omega arith), ⊗-𝟘 (series R))

        windows : AgreePlane (suc (c + j)) r (squared R U) (window e (squared R S))
        windows i b =
            rw (squared-at R, squared-at R)
            (spread_agree R 2 0<2 (agree_trans (u i (omega arith)) (agree_fraction R N P v (e + i) (omega arith))))

    module _ (r q : ℕ) (Q : Plane A) where
      cut-graeffe-degree : Degree (series R) m (degree_bound m q) (cut-graeffe R N P m r q Q)
      unfolding cut-graeffe
      cut-graeffe-degree j l b = cut_beyond (series R) (suc (degree_bound m q)) _ j l

      cut-graeffe-0 : 0 < r → Q 0 ≡ 𝟙 → cut-graeffe R N P m r q Q 0 ≡ 𝟙
      unfolding cut-graeffe ceil_div
      cut-graeffe-0 l unit =
          cut-plane-𝟙 R (degree_bound m q) (graeffe R N Q) (omega arith) (graeffe-0 R N Q unit)

      cut-graeffe_agree : Degree (series R) m q Q → AgreePlane m (ceil_div r 2) (cut-graeffe R N P m r q Q) (graeffe R N Q)
      unfolding cut-graeffe degree_bound
      cut-graeffe_agree h =
          cut-plane-degree R (graeffe R N Q) (λ j l b. graeffe-degree R N h j (omega arith) b)

    order-one : (Q : Plane A) (j : ℕ)
        → Agree 1 (coefficients (constants R) (quotient R N P (λ i. Q i 0)) j) (fraction R N P Q j)
    order-one Q j = agree_1 _ _ (rw (coefficients-at (constants R), constant-0 R) (sym (fraction-at-0 R N P Q j)))

    pub levels-fraction : (K r q d : ℕ) (Q : Plane A) → 0 < r → r ≤ 2 ^ K → Q 0 ≡ 𝟙 → Degree (series R) m q Q
        → levels R N P m K r q d Q ≡ cut-plane R (m - d) r (window d (fraction R N P Q))
    unfolding levels ceil_div
    levels-fraction zero r q d Q a b unit h =
        cut-plane-equal R (λ j l. agree_weaken b (order-one Q (d + j)))
    levels-fraction (suc K) r q d Q a b unit h =
        rw (levels-fraction K (ceil_div r 2) (degree_bound m q) (d - q) (cut-graeffe R N P m r q Q) (omega arith) (omega arith)
        (cut-graeffe-0 r q Q a unit) (cut-graeffe-degree r q Q))
        (cut-plane-equal R (λ j l. level Q (cut-graeffe R N P m r q Q) _ unit (omega arith) degree (cut-graeffe_agree r q Q h)
        (λ i u. cut-plane-below R _ _ _ i (omega arith)) j (omega arith)))
      where
        degree : 0 < d - q → Degree (series R) m (d - (d - q)) Q
        degree p i l u = h i (omega arith) u
