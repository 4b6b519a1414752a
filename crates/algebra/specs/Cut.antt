-- Windows, degrees and cuts of a series. Assumes nothing.
--
--   window e a            the powers from e on, moved down to 0
--   ⊠-window              the window of a product is the product with a window, if no power below the window takes part
--   Degree R m q a        a has no powers from q + 1 to m - 1
--   ⊠-degree              the degree of a product
--   cut R n a             a below n, 𝟘 from n on
--   cut_below cut_beyond  these two equations
--   cut_unique            a series that agrees with a below n and is 𝟘 from n on is the cut of a
--   cut-equal             series that agree below n have the same cut
--   cut-constant          a constant is its own cut
--   coefficients-cut      a homomorphism of the coefficients commutes with cuts
use Rattle.std.specs.Prelude.{ℕ, zero, suc, ◌+◌, ◌-◌, ◌<◌, ◌≤◌, ltb, cond, ◌≡◌}
use borrow.Author.Tests.{lt-ltb, le-ltb}
use Rattle.std.proofs.Common.{sym, ap, ◌∙◌, suc-add, zero-add, arith}
use Rattle.std.proofs.Math.Path.{fun_ext}
use Rattle.std.proofs.Math.Decide.{dec_le, dec_lt}
use Rattle.std.proofs.Math.Nat.{sub-zero, suc-sub-suc}
use Rattle.algebra.specs.Agree.{Agree, agree_refl, agree_trans}
use Rattle.algebra.specs.Homomorphism.{Homomorphism, coefficients, coefficients-at, map-cond}
use Rattle.algebra.specs.Semiring.{Semiring, ⊗-𝟘, 𝟘-⊗, 𝟘-⊕}
use Rattle.algebra.specs.Series.{Series, series, constant, constant-above, tail, ⊠-at, ⊠-suc}
use Rattle.algebra.specs.Sum.{sum-𝟘}

abbrev pub window : {A : Type 0} → ℕ → Series A → Series A
window e a = λ j. a (e + j)

module _ {A : Type 0} (R : Semiring A) where
  open R use {𝟘, ◌⊗◌}
  open series R use {◌⊗◌ as ◌⊠◌}

  infixl 60 ◌⊠◌
  abbrev pub Degree : ℕ → ℕ → Series A → Type 0
  Degree m q a = (i : ℕ) → q < i → i < m → a i ≡ 𝟘

  pub ⊠-window : (e k : ℕ) (a b : Series A) → ((i : ℕ) → i < e → a i ⊗ b (e + k - i) ≡ 𝟘)
      → (a ⊠ b) (e + k) ≡ (window e a ⊠ b) k
  ⊠-window zero k a b v = rw zero-add (ap (λ s. (s ⊠ b) k) (fun_ext λ j. ap a (sym (zero-add j))))
  ⊠-window (suc e) k a b v =
      let first : a 0 ⊗ b (suc (e + k)) ≡ 𝟘 = rw (suc-add, sub-zero) at (v 0 (omega arith)) in
      rw (suc-add, ⊠-suc R, first, 𝟘-⊕ R, ⊠-window e k (tail a) b (λ i l. rw (suc-add, suc-sub-suc) at (v (suc i) (omega arith))))
      (ap (λ s. (s ⊠ b) k) (fun_ext λ j. ap a (sym (suc-add e j))))

  pub ⊠-degree : (m p q : ℕ) (a b : Series A) → Degree m p a → Degree m q b → Degree m (p + q) (a ⊠ b)
  ⊠-degree m p q a b g h k l u = ⊠-at R a b k ∙ sum-𝟘 R (suc k) _ (λ i s. at i s (dec_le i p))
    where
      at : (i : ℕ) → i < suc k → Dec (i ≤ p) → a i ⊗ b (k - i) ≡ 𝟘
      at i s (yes t) = rw (h (k - i) (omega arith) (omega arith), ⊗-𝟘 R)
      at i s (no t) = rw (g i (omega arith) (omega arith), 𝟘-⊗ R)

  unfoldable pub cut : ℕ → Series A → Series A
  cut n a k = cond (ltb k n) (a k) 𝟘

  pub cut_below : (n : ℕ) (a : Series A) → Agree n (cut n a) a
  unfolding cut
  cut_below n a k l = rw lt-ltb

  pub cut_beyond : (n : ℕ) (a : Series A) (k : ℕ) → n ≤ k → cut n a k ≡ 𝟘
  unfolding cut
  cut_beyond n a k l = rw le-ltb

  pub cut_unique : {n : ℕ} {s a : Series A} → Agree n s a → ((k : ℕ) → n ≤ k → s k ≡ 𝟘) → s ≡ cut n a
  cut_unique {n} {s} {a} h z = fun_ext λ k. at k (dec_lt k n)
    where
      at : (k : ℕ) → Dec (k < n) → s k ≡ cut n a k
      at k (yes b) = h k b ∙ sym (cut_below n a k b)
      at k (no b) = z k (omega arith) ∙ sym (cut_beyond n a k (omega arith))

  pub cut-equal : {n : ℕ} {a b : Series A} → Agree n a b → cut n a ≡ cut n b
  cut-equal {n} {a} h = cut_unique (agree_trans (cut_below n a) h) (cut_beyond n a)

  pub cut-constant : {n : ℕ} → 0 < n → (c : A) → cut n (constant R c) ≡ constant R c
  cut-constant {n} l c = sym (cut_unique (agree_refl _) (λ k b. constant-above R c k (omega arith)))

module _ {A B : Type 0} {R : Semiring A} {S : Semiring B} (φ : Homomorphism R S) where
  pub coefficients-cut : (n : ℕ) (a : Series A) → coefficients φ (cut R n a) ≡ cut S n (coefficients φ a)
  unfolding cut
  coefficients-cut n a = fun_ext λ k. rw (coefficients-at φ, coefficients-at φ) (map-cond φ (ltb k n) (a k))
