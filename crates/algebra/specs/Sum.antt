-- Finite sums in a semiring. Assumes nothing.
--
--   sum R n f         f 0 ⊕ .. ⊕ f (n - 1)
--   sum-0 sum-suc     its equations: the last term split off
--   sum_first         the first term split off
--   sum-+             a sum split at i
--   sum_cong          sums of equal terms
--   sum-𝟘 sum_single  all terms 𝟘; all but one
--   sum_beyond        terms that are 𝟘 from q on may be left out
--   sum-⊕             the sum of two sums
--   ⊗-sum sum-⊗       a common factor
--   sum_exchange      the order of two sums
--   sum-blocks        a sum of c p terms, taken by remainders modulo p
use Rattle.std.specs.Prelude.{ℕ, zero, suc, ◌+◌, ◌*◌, ◌<◌, ◌≤◌, ◌≢◌, ◌≡◌}
use Rattle.std.proofs.Math.Path.{refl}
use Rattle.std.proofs.Common.{sym, ap, ◌∙◌, add_comm, add-suc, add-zero, mul_comm, suc-mul, zero-mul, arith}
use Rattle.std.proofs.Math.Nat.{le_dest}
use Rattle.algebra.specs.Semiring.{Semiring, ⊕_assoc, ⊕_comm, ⊕-𝟘, 𝟘-⊕, ⊗-⊕, ⊗-𝟘, ⊗_comm, ⊕_interchange}

module _ {A : Type 0} (R : Semiring A) where
  open R use {𝟘, ◌⊕◌, ◌⊗◌}

  pub sum : ℕ → (ℕ → A) → A
  sum zero f = 𝟘
  sum (suc n) f = sum n f ⊕ f n

  pub sum-0 : (f : ℕ → A) → sum 0 f ≡ 𝟘
  unfolding sum
  sum-0 f = refl

  pub sum-suc : (n : ℕ) (f : ℕ → A) → sum (suc n) f ≡ sum n f ⊕ f n
  unfolding sum
  sum-suc n f = refl

  pub sum-+ : (i j : ℕ) (f : ℕ → A) → sum (i + j) f ≡ sum i f ⊕ sum j (λ k. f (i + k))
  sum-+ i zero f = rw (add-zero, sum-0, ⊕-𝟘)
  sum-+ i (suc j) f = rw (add-suc, sum-suc, sum-suc, sum-+ i j f, ⊕_assoc)

  pub sum_first : (n : ℕ) (f : ℕ → A) → sum (suc n) f ≡ f 0 ⊕ sum n (λ i. f (suc i))
  sum_first zero f = rw (sum-suc 0 f, sum-0, sum-0, ⊕_comm)
  sum_first (suc n) f = rw (sum-suc, sum_first n f, sum-suc, ⊕_assoc)

  pub sum_cong : (n : ℕ) (f g : ℕ → A) → ((i : ℕ) → i < n → f i ≡ g i) → sum n f ≡ sum n g
  sum_cong zero f g h = rw (sum-0, sum-0)
  sum_cong (suc n) f g h =
      rw (sum-suc, sum-suc, sum_cong n f g (λ i l. h i (omega arith)), h n (omega arith))

  pub sum-𝟘 : (n : ℕ) (f : ℕ → A) → ((i : ℕ) → i < n → f i ≡ 𝟘) → sum n f ≡ 𝟘
  sum-𝟘 zero f h = sum-0 f
  sum-𝟘 (suc n) f h = rw (sum-suc, sum-𝟘 n f (λ i l. h i (omega arith)), h n (omega arith), ⊕-𝟘)

  pub sum-⊕ : (n : ℕ) (f g : ℕ → A) → sum n (λ i. f i ⊕ g i) ≡ sum n f ⊕ sum n g
  sum-⊕ zero f g = simp (sum-0, 𝟘-⊕)
  sum-⊕ (suc n) f g = rw (sum-suc, sum-suc, sum-suc, sum-⊕ n f g, ⊕_interchange)

  pub ⊗-sum : (n : ℕ) (c : A) (f : ℕ → A) → c ⊗ sum n f ≡ sum n (λ i. c ⊗ f i)
  ⊗-sum zero c f = rw (sum-0, sum-0, ⊗-𝟘)
  ⊗-sum (suc n) c f = rw (sum-suc, sum-suc, ⊗-⊕, ⊗-sum n c f)

  pub sum-⊗ : (n : ℕ) (f : ℕ → A) (c : A) → sum n f ⊗ c ≡ sum n (λ i. f i ⊗ c)
  sum-⊗ n f c = rw (⊗_comm R (sum n f) c, ⊗-sum) (simp ⊗_comm)

  pub sum_exchange : (m n : ℕ) (f : ℕ → ℕ → A)
      → sum m (λ i. sum n (f i)) ≡ sum n (λ j. sum m (λ i. f i j))
  sum_exchange zero n f = simp sum-0 (sym (sum-𝟘 n (λ j. 𝟘) (λ j l. refl)))
  sum_exchange (suc m) n f =
      simp (sum-suc, sum-⊕) (ap (λ s. s ⊕ sum n (f m)) (sum_exchange m n f))

  pub sum_beyond : (q n : ℕ) (f : ℕ → A) → q ≤ n → ((i : ℕ) → q ≤ i → i < n → f i ≡ 𝟘) → sum n f ≡ sum q f
  sum_beyond q n f u h =
      let (r, e) = le_dest u in
      rw (← e, sum-+, sum-𝟘 r (λ i. f (q + i)) (λ i v. h (q + i) (omega arith) (omega arith)), ⊕-𝟘)

  pub sum_single : (n j : ℕ) (f : ℕ → A) → j < n → ((i : ℕ) → i < n → i ≢ j → f i ≡ 𝟘) → sum n f ≡ f j
  sum_single n j f l h =
      sum_beyond (suc j) n f l (λ i b u. h i u (omega arith))
      ∙ rw (sum-suc, sum-𝟘 j f (λ i b. h i (omega arith) (omega arith)), 𝟘-⊕)

  pub sum-blocks : (c p : ℕ) (f : ℕ → A) → sum (c * p) f ≡ sum p (λ j. sum c (λ i. f (j + p * i)))
  sum-blocks zero p f = rw (zero-mul, sum-0) (sym (sum-𝟘 p _ (λ j l. sum-0 _)))
  sum-blocks (suc c) p f =
      rw (suc-mul, sum-+, sum-blocks c p f) (simp (sum-suc, sum-⊕, add_comm, mul_comm))
