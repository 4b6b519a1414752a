-- The quotient P/Q of two series, by a recursion that gives it where Q has constant term 𝟙. Assumes nothing.
--
-- ⊕ and ⊗ are the operations of the coefficients, ⊠ is the product of series.
--
--   quotient R N P Q      P/Q: its constant term is P_0, its tail is (tail P - P_0 tail Q)/Q
--   quotient-0 quotient-suc   these two equations
--   quotient-next         coefficient k of P/Q from those before it: P_k - (Q_k U_0 + .. + Q_1 U_(k-1)), U = P/Q
--   quotient_respects     a relation that the operations of the coefficients respect is kept by quotients
--   agree_quotient        quotients of series that agree below n agree below n
--   quotient-map          a homomorphism applied to each coefficient keeps quotients
--
-- For Q with constant term 𝟙:
--   quotient-⊠            (P/Q) ⊠ Q is P
--   ⊠-quotient            (U ⊠ Q)/Q is U
--   quotient_unique       U is P/Q if U ⊠ Q is P
use Prim.Native.Nat.{ℕ, zero, suc, ◌-◌, ◌<◌}
use Rattle.std.specs.Prelude.{◌≡◌}
use Rattle.std.proofs.Math.Path.{refl, fun_ext}
use Rattle.std.proofs.Common.{sym, ap, ◌∙◌, arith}
use Rattle.std.proofs.Math.Nat.{sub-zero, suc-sub-suc}
use Rattle.algebra.specs.Agree.{Agree}
use Rattle.algebra.specs.Homomorphism.{Homomorphism, coefficients, coefficients-at, map-neg}
use Rattle.algebra.specs.Negation.{Negation, signed, ⊕-neg_cancel}
use Rattle.algebra.specs.Semiring.{Semiring, ring, ⊗-𝟙, ⊕_assoc, ⊕_comm, ⊕-𝟘}
use Rattle.algebra.specs.Series.{Series, series, tail, ⊠-0, ⊠-suc}
use Rattle.algebra.specs.Sum.{sum, sum-0, sum_first}

module _ {A : Type 0} (R : Semiring A) (N : Negation R) where
  open R use {𝟙, ◌⊕◌, ◌⊗◌}
  open N use {neg}
  open series R use {◌⊗◌ as ◌⊠◌}

  infixl 60 ◌⊠◌
  pub quotient : Series A → Series A → Series A
  quotient P Q zero = P 0
  quotient P Q (suc k) = quotient (λ i. P (suc i) ⊕ neg (P 0 ⊗ Q (suc i))) Q k

  pub quotient-0 : (P Q : Series A) → quotient P Q 0 ≡ P 0
  unfolding quotient
  quotient-0 P Q = refl

  pub quotient-suc : (P Q : Series A) (k : ℕ)
      → quotient P Q (suc k) ≡ quotient (λ i. P (suc i) ⊕ neg (P 0 ⊗ Q (suc i))) Q k
  unfolding quotient
  quotient-suc P Q k = refl

  pub quotient-next : (P Q : Series A) (k : ℕ)
      → quotient P Q k ≡ P k ⊕ sum R k (λ i. neg (Q (k - i)) ⊗ quotient P Q i)
  quotient-next P Q zero = rw (quotient-0, sum-0 R, ⊕-𝟘 R)
  quotient-next P Q (suc k) =
      rw (
        quotient-suc P Q k,
        quotient-next (λ i. P (suc i) ⊕ neg (P 0 ⊗ Q (suc i))) Q k,
        sum_first R k (λ i. neg (Q (suc k - i)) ⊗ quotient P Q i),
        sub-zero,
        quotient-0,
      )
      (simp (quotient-suc, suc-sub-suc, ring, signed))

  module _ (◌~◌ : A → A → Type 0)
      (respects : (a b c x y z : A) → ◌~◌ a x → ◌~◌ b y → ◌~◌ c z → ◌~◌ (a ⊕ neg (b ⊗ c)) (x ⊕ neg (y ⊗ z))) where
    infix 20 ◌~◌
    pub quotient_respects : (n : ℕ) {P Q S T : Series A}
        → ((k : ℕ) → k < n → P k ~ S k) → ((k : ℕ) → k < n → Q k ~ T k)
        → (k : ℕ) → k < n → quotient P Q k ~ quotient S T k
    unfolding quotient
    quotient_respects n g h zero l = g 0 l
    quotient_respects zero g h (suc k) l = absurd (omega arith)
    quotient_respects (suc n) g h (suc k) l =
        quotient_respects n
        (λ i b. respects _ _ _ _ _ _ (g (suc i) (omega arith)) (g 0 (omega arith)) (h (suc i) (omega arith)))
        (λ i b. h i (omega arith))
        k (omega arith)

  pub agree_quotient : {n : ℕ} {P Q S T : Series A} → Agree n P S → Agree n Q T → Agree n (quotient P Q) (quotient S T)
  agree_quotient {n} = quotient_respects ◌≡◌ (λ a b c x y z e f g. rw (e, f, g)) n

  module _ (Q : Series A) (unit : Q 0 ≡ 𝟙) where
    quotient-⊠-at : (P : Series A) (k : ℕ) → (quotient P Q ⊠ Q) k ≡ P k
    unfolding quotient
    quotient-⊠-at P zero = rw (⊠-0 R, unit, ⊗-𝟙 R)
    quotient-⊠-at P (suc k) =
        rw (⊠-suc R, quotient-⊠-at (λ i. P (suc i) ⊕ neg (P 0 ⊗ Q (suc i))) k, ⊕_comm R (P (suc k)), ⊕-neg_cancel R N)

    pub quotient-⊠ : (P : Series A) → quotient P Q ⊠ Q ≡ P
    quotient-⊠ P = fun_ext (quotient-⊠-at P)

    ⊠-quotient-at : (U : Series A) (k : ℕ) → quotient (U ⊠ Q) Q k ≡ U k
    unfolding quotient
    ⊠-quotient-at U zero = rw (⊠-0 R, unit, ⊗-𝟙 R)
    ⊠-quotient-at U (suc k) =
        simp (⊠-suc R, ⊠-0 R, unit, ⊗-𝟙 R, ⊕_assoc R, ⊕_comm R, ⊕-neg_cancel R N) (⊠-quotient-at (tail U) k)

    pub ⊠-quotient : (U : Series A) → quotient (U ⊠ Q) Q ≡ U
    ⊠-quotient U = fun_ext (⊠-quotient-at U)

    pub quotient_unique : (P U : Series A) → U ⊠ Q ≡ P → U ≡ quotient P Q
    quotient_unique P U e = rw (← e) (sym (⊠-quotient U))

module _ {A B : Type 0} {R : Semiring A} {S : Semiring B} (N : Negation R) (M : Negation S) (φ : Homomorphism R S) where
  quotient-map-at : (P Q : Series A) (k : ℕ)
      → φ.map (quotient R N P Q k) ≡ quotient S M (coefficients φ P) (coefficients φ Q) k
  quotient-map-at P Q zero = rw (quotient-0 R N, quotient-0 S M, coefficients-at φ)
  quotient-map-at P Q (suc k) =
      rw (quotient-suc R N, quotient-suc S M, quotient-map-at (λ i. R.◌⊕◌ (P (suc i)) (N.neg (R.◌⊗◌ (P 0) (Q (suc i))))) Q k)
      (ap (λ s. quotient S M s (coefficients φ Q) k)
      (fun_ext λ i. simp (coefficients-at φ, φ.map-⊕, φ.map-⊗, map-neg φ N M)))

  pub quotient-map : (P Q : Series A)
      → coefficients φ (quotient R N P Q) ≡ quotient S M (coefficients φ P) (coefficients φ Q)
  quotient-map P Q = fun_ext λ k. coefficients-at φ (quotient R N P Q) k ∙ quotient-map-at P Q k
