-- When two polynomials in one series agree below a place. Over a ring without zero divisors, D(u) vanishes below n exactly when
-- D_i is 𝟘 for all i with i v < n, where v > 0 is the least place at which u is not 𝟘, or n if u vanishes below n. Assumes nothing.
--
--   ⊠_lowest            the first coefficient of a product
--   power_lowest        the first coefficient of a power
--   vanishing           when the sum of d_i u^i over i < m vanishes below n
--   agreement           when two such sums agree below n
--   taylor_agreement    when f(c + u) and h(c + u) agree below n: when f and h have the same coefficients i in powers of (z - c),
--                       for all i with i v < n
use Prim.Native.Nat.{ℕ, zero, suc, ◌+◌, ◌-◌, ◌*◌, ◌<◌, ◌≤◌}
use Rattle.std.specs.Prelude.{List, ◌↔◌, ◌≢◌, ◌≡◌}
use Rattle.std.proofs.Common.{sym, ap, ◌∙◌, add_comm, le_of_lt, mul-le-mul_right, mul-lt-mul_of_pos_right, suc-mul, zero-mul, arith}
use Rattle.std.proofs.Math.ListN.{length}
use Rattle.std.proofs.Math.Decide.{dec_lt}
use Rattle.std.proofs.Math.Nat.{add-sub_cancel_left}
use Rattle.algebra.specs.Agree.{Agree, Vanish, vanish_power}
use Rattle.algebra.specs.Domain.{NoZeroDivisors, power-nonzero}
use Rattle.algebra.specs.Evaluate.{evaluate}
use Rattle.algebra.specs.Homomorphism.{Homomorphism, composite, constants}
use Rattle.algebra.specs.Negation.{Negation, add-difference, ⊕_cancel}
use Rattle.algebra.specs.Power.{power, power-0, power-suc}
use Rattle.algebra.specs.Semiring.{Semiring, naturals, ⊕-𝟘, 𝟘-⊗, ⊗-𝟘, ⊗-𝟙, ⊗_comm, ⊕-⊗}
use Rattle.algebra.specs.Series.{Series, series, ⊠-at, 𝟙-constant, constant-0}
use Rattle.algebra.specs.Substitution.{partial_sum, partial_sum-at}
use Rattle.algebra.specs.Sum.{sum-𝟘, sum_cong, sum_single, sum-⊕}
use Rattle.algebra.specs.Taylor.{taylor}
use Rattle.definition.specs.Taylor.{shifted}

module _ {A : Type 0} (R : Semiring A) where
  open R use {𝟘, 𝟙, ◌⊕◌, ◌⊗◌}
  open series R use {◌⊗◌ as ◌⊠◌}

  infixl 60 ◌⊠◌
  pub ⊠_lowest : (i j : ℕ) {a b : Series A} → Vanish R i a → Vanish R j b → (a ⊠ b) (i + j) ≡ a i ⊗ b j
  ⊠_lowest i j {a} {b} va vb =
      ⊠-at R a b (i + j)
      ∙ sum_single R (suc (i + j)) i (λ k. a k ⊗ b (i + j - k)) (omega arith) (λ k l z. at k l z (dec_lt k i))
      ∙ rw add-sub_cancel_left
    where
      at : (k : ℕ) → k < suc (i + j) → k ≢ i → Dec (k < i) → a k ⊗ b (i + j - k) ≡ 𝟘
      at k l z (yes s) = rw (va k s, 𝟘-⊗ R)
      at k l z (no s) = rw (vb (i + j - k) (omega arith), ⊗-𝟘 R)

  pub power_lowest : (v : ℕ) {u : Series A} → Vanish R v u → (i : ℕ) → power (series R) u i (i * v) ≡ power R (u v) i
  power_lowest v h zero = rw (zero-mul, power-0 (series R), power-0 R, 𝟙-constant R) (constant-0 R 𝟙)
  power_lowest v h (suc i) =
      rw (suc-mul, add_comm (i * v) v, power-suc (series R), power-suc R, ← power_lowest v h i)
      (⊠_lowest v (i * v) h (vanish_power R v i h))

  module _ (domain : NoZeroDivisors R) {n v : ℕ} (u : Series A)
      (l : 0 < v) (low : Vanish R v u) (first : v < n → u v ≢ 𝟘) (m : ℕ) where
    cancel : (i : ℕ) → i * v < n → (a : A) → a ⊗ power R (u v) i ≡ 𝟘 → a ≡ 𝟘
    cancel zero b a e = rw (power-0 R, ⊗-𝟙 R) at e
    cancel (suc i) b a e =
        domain (power R (u v) (suc i)) a (power-nonzero R domain (u v) (first (omega (arith, suc-mul i v))) (suc i))
        (⊗_comm R (power R (u v) (suc i)) a ∙ e)

    -- coefficient i v of the sum is d_i (u_v)^i if the coefficients before d_i are 𝟘
    coefficient_lowest : (d : ℕ → A) (i : ℕ) → i < m → ((j : ℕ) → j < i → d j ≡ 𝟘)
        → partial_sum R d u m (i * v) ≡ d i ⊗ power R (u v) i
    coefficient_lowest d i s before =
        partial_sum-at R d u m (i * v)
        ∙ sum_single R m i (λ j. d j ⊗ power (series R) u j (i * v)) s (λ j t z. other j z (dec_lt j i))
        ∙ ap (λ w. d i ⊗ w) (power_lowest v low i)
      where
        other : (j : ℕ) → j ≢ i → Dec (j < i) → d j ⊗ power (series R) u j (i * v) ≡ 𝟘
        other j z (yes w) = rw (before j w, 𝟘-⊗ R)
        other j z (no w) = rw (vanish_power R v j low (i * v) (mul-lt-mul_of_pos_right (omega arith) l), ⊗-𝟘 R)

    vanishing_below : (d : ℕ → A) → Vanish R n (partial_sum R d u m)
        → (bound i : ℕ) → i < bound → i < m → i * v < n → d i ≡ 𝟘
    vanishing_below d h zero i c s b = absurd (omega arith)
    vanishing_below d h (suc bound) i c s b =
        cancel i b (d i) (sym (coefficient_lowest d i s (λ j w.
        vanishing_below d h bound j (omega arith) (omega arith) (omega (arith, mul-le-mul_right v (le_of_lt w)))))
        ∙ h (i * v) b)

    pub vanishing : (d : ℕ → A) → Vanish R n (partial_sum R d u m) ↔ ((i : ℕ) → i < m → i * v < n → d i ≡ 𝟘)
    vanishing d = (
      (λ h i. vanishing_below d h (suc i) i (omega arith)),
      (λ h k b. partial_sum-at R d u m k ∙ sum-𝟘 R m _ (λ i s. at h k b i s (dec_lt (i * v) n))),
    )
      where
        at : ((i : ℕ) → i < m → i * v < n → d i ≡ 𝟘) → (k : ℕ) → k < n
            → (i : ℕ) → i < m → Dec (i * v < n) → d i ⊗ power (series R) u i k ≡ 𝟘
        at h k b i s (yes w) = rw (h i s w, 𝟘-⊗ R)
        at h k b i s (no w) = rw (vanish_power R v i low k (omega arith), ⊗-𝟘 R)

    module _ (N : Negation R) where
      -- a sum is its first term exactly when the second is 𝟘
      excess : {a b d : A} → a ≡ b ⊕ d → (a ≡ b) ↔ (d ≡ 𝟘)
      excess {b} e = ((λ h. ⊕_cancel R N b (sym e ∙ h ∙ sym (⊕-𝟘 R b))), (λ h. e ∙ rw (h, ⊕-𝟘 R)))

      pub agreement : (a b : ℕ → A)
          → Agree n (partial_sum R a u m) (partial_sum R b u m) ↔ ((i : ℕ) → i < m → i * v < n → a i ≡ b i)
      agreement a b = (
        (λ h i s t. (excess (split i)).1 ((vanishing difference).0 (λ k c. (excess (split_at k)).0 (h k c)) i s t)),
        (λ h k c. (excess (split_at k)).1 ((vanishing difference).1 (λ i s t. (excess (split i)).0 (h i s t)) k c)),
      )
        where
          difference : ℕ → A
          difference i = a i ⊕ N.neg (b i)

          split : (i : ℕ) → a i ≡ b i ⊕ difference i
          split i = sym (add-difference R N (a i) (b i))

          split_at : (k : ℕ) → partial_sum R a u m k ≡ partial_sum R b u m k ⊕ partial_sum R difference u m k
          split_at k =
              rw (partial_sum-at R a u m k, partial_sum-at R b u m k, partial_sum-at R difference u m k, ← sum-⊕ R)
              (sum_cong R m _ _ (λ i s. ap (λ w. w ⊗ power (series R) u i k) (split i) ∙ ⊕-⊗ R (b i) (difference i) _))

module _ {A : Type 0} (R : Semiring A) (N : Negation R) (domain : NoZeroDivisors R) (φ : Homomorphism naturals R) (c : ℕ)
    {n v : ℕ} (u : Series A) (l : 0 < v) (low : Vanish R v u) (first : v < n → u v ≢ R.𝟘) where
  open series R use {◌⊕◌ as ◌⊞◌}

  abbrev ψ : Homomorphism naturals (series R)
  ψ = composite (constants R) φ

  pub taylor_agreement : (f h : List ℕ)
      → Agree n (evaluate ψ f (ψ.map c ⊞ u)) (evaluate ψ h (ψ.map c ⊞ u))
      ↔ ((i : ℕ) → i * v < n → φ.map (shifted f c i) ≡ φ.map (shifted h c i))
  unfolding partial_sum
  taylor_agreement f h = (
    (λ e i. (rule (length f + length h + suc i) (omega arith) (omega arith)).0 e i (omega arith)),
    (λ e. (rule (length f + length h) (omega arith) (omega arith)).1 (λ i s. e i)),
  )
    where
      rule : (m : ℕ) → length f ≤ m → length h ≤ m
          → Agree n (evaluate ψ f (ψ.map c ⊞ u)) (evaluate ψ h (ψ.map c ⊞ u))
          ↔ ((i : ℕ) → i < m → i * v < n → φ.map (shifted f c i) ≡ φ.map (shifted h c i))
      rule m a b =
          rw (taylor ψ f c u m a, taylor ψ h c u m b)
          (agreement R domain u l low first m N (λ i. φ.map (shifted f c i)) (λ i. φ.map (shifted h c i)))
