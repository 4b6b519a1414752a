-- Power series over a semiring. They are again a semiring, so series in two variables are series over
-- series. Assumes nothing.
--
-- ⊕ and ⊗ are the operations of the coefficients, ⊞ and ⊠ those of the series.
--
--   Series A                  sequences of coefficients
--   tail a                    the series with coefficient k + 1 of a at place k
--   equal_by_tail             series are equal if their constant terms and their tails are
--   shift R a                 the series with coefficient k of a at place k + 1
--   constant R c              the series c
--   indeterminate R           the series x
--   series R                  the semiring of series over R
--   series_negation R N       its negation
--   𝟘-at 𝟙-constant ⊞-at neg-at sum-at   coefficients of 𝟘, 𝟙, sums, negations, finite sums
--   ⊠-0 ⊠-suc                 coefficients of a product, by recursion on the place
--   ⊠-at                      coefficient k of a product is the sum of a_i b_(k-i) over i ≤ k
--   constant-0 constant-suc constant-above tail-constant   coefficients and tail of a constant
--   constant-⊠-at             coefficients of a constant times a series
--   shift-0 shift_suc tail-shift   coefficients and tail of a shift
--   shift-⊠                   a shift moves out of a product
--   indeterminate-shift indeterminate-0 indeterminate-above   x is the shift of 𝟙, and its coefficients at 0 and above 1 are 𝟘
--   indeterminate-⊠           the product with x is the shift
--   decompose                 a series is its constant term plus x times its tail
--   power-⊠-above power-⊠-below   coefficients of x^j times a series, from place j on and before it
use Prim.Native.Nat.{ℕ, zero, suc, ◌+◌, ◌-◌, ◌<◌}
use Rattle.std.specs.Prelude.{◌≡◌}
use Rattle.std.proofs.Math.Path.{refl, fun_ext}
use Rattle.std.proofs.Common.{◌∙◌, suc-add, zero-add, arith}
use Rattle.std.proofs.Math.Nat.{sub-zero, suc-sub-suc}
use Rattle.algebra.specs.Negation.{Negation}
use Rattle.algebra.specs.Power.{power, power-0, power-suc}
use Rattle.algebra.specs.Semiring.{Semiring, ⊕_assoc, ⊕_comm, ⊕-𝟘, 𝟘-⊕, ⊕-⊗, 𝟘-⊗, ⊗_assoc, ⊗_comm, ⊗-⊕, ⊕_interchange, 𝟙-⊗}
use Rattle.algebra.specs.Sum.{sum, sum-0, sum-suc, sum_first}

abbrev pub Series : Type 0 → Type 0
Series A = ℕ → A

abbrev pub tail : {A : Type 0} → Series A → Series A
tail a k = a (suc k)

pub equal_by_tail : {A : Type 0} {a b : Series A}
    → a 0 ≡ b 0 → ((k : ℕ) → tail a k ≡ tail b k) → a ≡ b
equal_by_tail h t = fun_ext (elim [ zero ↦ h | suc k ↦ t k ])

module _ {A : Type 0} (R : Semiring A) where
  open R use {𝟘, 𝟙, ◌⊕◌, ◌⊗◌}

  pub shift : Series A → Series A
  shift a zero = 𝟘
  shift a (suc k) = a k

  pub constant : A → Series A
  constant c zero = c
  constant c (suc k) = 𝟘

  pub indeterminate : Series A
  indeterminate = shift (constant 𝟙)

  product : Series A → Series A → Series A
  product a b zero = a 0 ⊗ b 0
  product a b (suc k) = a 0 ⊗ b (suc k) ⊕ product (tail a) b k

  product-0 : (a b : Series A) → product a b 0 ≡ a 0 ⊗ b 0
  unfolding product
  product-0 a b = refl

  product-suc : (a b : Series A) (k : ℕ)
      → product a b (suc k) ≡ a 0 ⊗ b (suc k) ⊕ product (tail a) b k
  unfolding product
  product-suc a b k = refl

  product_last : (a b : Series A) (k : ℕ)
      → product a b (suc k) ≡ product a (tail b) k ⊕ a (suc k) ⊗ b 0
  product_last a b zero = rw (product-suc a b 0, product-0, product-0)
  product_last a b (suc k) = rw (product-suc, product_last (tail a) b k, product-suc, ⊕_assoc)

  product_comm : (a b : Series A) (k : ℕ) → product a b k ≡ product b a k
  product_comm a b zero = rw (product-0, product-0, ⊗_comm)
  product_comm a b (suc k) =
      rw (product-suc a b, product_last b a k, product_comm (tail a) b k, ⊗_comm R (a 0), ⊕_comm)

  ⊕-product : (a b c : Series A) (k : ℕ)
      → product (λ i. a i ⊕ b i) c k ≡ product a c k ⊕ product b c k
  ⊕-product a b c zero = simp (product-0, ⊕-⊗)
  ⊕-product a b c (suc k) =
      simp product-suc (rw (⊕-product (tail a) (tail b) c k, ⊕-⊗, ⊕_interchange))

  𝟘-product : (b : Series A) (k : ℕ) → product (λ i. 𝟘) b k ≡ 𝟘
  𝟘-product b zero = rw (product-0, 𝟘-⊗)
  𝟘-product b (suc k) = rw (product-suc, 𝟘-product b k, 𝟘-⊗, ⊕-𝟘)

  constant-product : (c : A) (b : Series A) (k : ℕ) → product (constant c) b k ≡ c ⊗ b k
  unfolding constant
  constant-product c b zero = product-0 (constant c) b
  constant-product c b (suc k) = rw (product-suc, 𝟘-product b k, ⊕-𝟘)

  scaled_product : (c : A) (a b : Series A) (k : ℕ) → product (λ i. c ⊗ a i) b k ≡ c ⊗ product a b k
  scaled_product c a b zero = rw (product-0, product-0, ⊗_assoc)
  scaled_product c a b (suc k) =
      rw (product-suc, product-suc, scaled_product c (tail a) b k, ⊗_assoc, ⊗-⊕)

  product_assoc : (a b c : Series A) (k : ℕ) → product (product a b) c k ≡ product a (product b c) k
  unfolding product
  product_assoc a b c zero = simp (product-0, ⊗_assoc)
  product_assoc a b c (suc k) =
      simp (product-suc, product-0)
      (rw (
        ⊕-product (λ i. a 0 ⊗ b (suc i)) (product (tail a) b) c k,
        scaled_product (a 0) (tail b) c k,
        product_assoc (tail a) b c k,
        ⊗-⊕,
        ⊗_assoc,
        ⊕_assoc,
      ))

  product-⊕ : (a b c : Series A) (k : ℕ)
      → product a (λ i. b i ⊕ c i) k ≡ product a b k ⊕ product a c k
  product-⊕ a b c k = simp (product_comm a) (⊕-product b c a k)

  pub series : Semiring (Series A)
  series = record {
    𝟘 = λ k. 𝟘;
    𝟙 = constant 𝟙;
    ◌⊕◌ = λ a b k. a k ⊕ b k;
    ◌⊗◌ = product;
    ⊕_assoc = λ a b c. fun_ext λ k. ⊕_assoc R (a k) (b k) (c k);
    ⊕_comm = λ a b. fun_ext λ k. ⊕_comm R (a k) (b k);
    𝟘-⊕ = λ a. fun_ext λ k. 𝟘-⊕ R (a k);
    ⊗_assoc = λ a b c. fun_ext (product_assoc a b c);
    ⊗_comm = λ a b. fun_ext (product_comm a b);
    𝟙-⊗ = λ a. fun_ext λ k. constant-product 𝟙 a k ∙ 𝟙-⊗ R (a k);
    ⊗-⊕ = λ a b c. fun_ext (product-⊕ a b c);
    𝟘-⊗ = λ a. fun_ext (𝟘-product a);
  }

  infixl 50 ◌⊞◌
  infixl 60 ◌⊠◌
  open series use {𝟘 as 𝟘ˢ, 𝟙 as 𝟙ˢ, ◌⊕◌ as ◌⊞◌, ◌⊗◌ as ◌⊠◌}

  pub 𝟘-at : (k : ℕ) → 𝟘ˢ k ≡ 𝟘
  unfolding series
  𝟘-at k = refl

  pub 𝟙-constant : 𝟙ˢ ≡ constant 𝟙
  unfolding series
  𝟙-constant = refl

  pub ⊞-at : (a b : Series A) (k : ℕ) → (a ⊞ b) k ≡ a k ⊕ b k
  unfolding series
  ⊞-at a b k = refl

  pub ⊠-0 : (a b : Series A) → (a ⊠ b) 0 ≡ a 0 ⊗ b 0
  unfolding series
  ⊠-0 = product-0

  pub ⊠-suc : (a b : Series A) (k : ℕ) → (a ⊠ b) (suc k) ≡ a 0 ⊗ b (suc k) ⊕ (tail a ⊠ b) k
  unfolding series
  ⊠-suc = product-suc

  pub ⊠-at : (a b : Series A) (k : ℕ) → (a ⊠ b) k ≡ sum R (suc k) (λ i. a i ⊗ b (k - i))
  ⊠-at a b zero = rw (⊠-0, sum-suc R 0, sum-0, 𝟘-⊕, sub-zero)
  ⊠-at a b (suc k) =
      rw (⊠-suc, sum_first R (suc k) (λ i. a i ⊗ b (suc k - i)), sub-zero, ⊠-at (tail a) b k)
      (simp suc-sub-suc)

  pub sum-at : (n : ℕ) (f : ℕ → Series A) (k : ℕ) → sum series n f k ≡ sum R n (λ i. f i k)
  sum-at zero f k = rw (sum-0, sum-0, 𝟘-at)
  sum-at (suc n) f k = rw (sum-suc, sum-suc, ⊞-at, sum-at n f k)

  pub constant-0 : (c : A) → constant c 0 ≡ c
  unfolding constant
  constant-0 c = refl

  pub constant-suc : (c : A) (k : ℕ) → constant c (suc k) ≡ 𝟘
  unfolding constant
  constant-suc c k = refl

  pub constant-above : (c : A) (k : ℕ) → 0 < k → constant c k ≡ 𝟘
  constant-above c zero l = absurd (omega arith)
  constant-above c (suc k) l = constant-suc c k

  pub tail-constant : (c : A) → tail (constant c) ≡ constant 𝟘
  tail-constant c = equal_by_tail
      (rw (constant-0, constant-suc)) (λ k. rw (constant-suc, constant-suc))

  pub constant-⊠-at : (c : A) (a : Series A) (k : ℕ) → (constant c ⊠ a) k ≡ c ⊗ a k
  unfolding series
  constant-⊠-at = constant-product

  pub shift-0 : (a : Series A) → shift a 0 ≡ 𝟘
  unfolding shift
  shift-0 a = refl

  pub shift_suc : (a : Series A) (k : ℕ) → shift a (suc k) ≡ a k
  unfolding shift
  shift_suc a k = refl

  pub tail-shift : (a : Series A) → tail (shift a) ≡ a
  tail-shift a = fun_ext (shift_suc a)

  pub shift-⊠ : (a b : Series A) → shift a ⊠ b ≡ shift (a ⊠ b)
  unfolding shift
  shift-⊠ a b = equal_by_tail (rw (⊠-0, 𝟘-⊗)) (λ k. rw (⊠-suc, 𝟘-⊗, 𝟘-⊕))

  pub indeterminate-shift : indeterminate ≡ shift 𝟙ˢ
  unfolding indeterminate series
  indeterminate-shift = refl

  pub indeterminate-0 : indeterminate 0 ≡ 𝟘
  indeterminate-0 = rw (indeterminate-shift, shift-0)

  pub indeterminate-above : (k : ℕ) → 1 < k → indeterminate k ≡ 𝟘
  indeterminate-above zero l = absurd (omega arith)
  indeterminate-above (suc k) l = rw (indeterminate-shift, shift_suc, 𝟙-constant) (constant-above 𝟙 k (omega arith))

  pub indeterminate-⊠ : (a : Series A) → indeterminate ⊠ a ≡ shift a
  indeterminate-⊠ a = rw (indeterminate-shift, shift-⊠, 𝟙-⊗)

  pub decompose : (a : Series A) → a ≡ constant (a 0) ⊞ indeterminate ⊠ tail a
  decompose a = rw indeterminate-⊠
      (equal_by_tail
      (rw (⊞-at, constant-0, shift-0, ⊕-𝟘)) (λ k. rw (⊞-at, constant-suc, shift_suc, 𝟘-⊕)))

  pub power-⊠-above : (j : ℕ) (a : Series A) (k : ℕ)
      → (power series indeterminate j ⊠ a) (j + k) ≡ a k
  power-⊠-above zero a k = rw (power-0, 𝟙-⊗, zero-add)
  power-⊠-above (suc j) a k =
      rw (power-suc, ⊗_assoc, indeterminate-⊠, suc-add, shift_suc) (power-⊠-above j a k)

  pub power-⊠-below : (j : ℕ) (a : Series A) (k : ℕ) → k < j
      → (power series indeterminate j ⊠ a) k ≡ 𝟘
  power-⊠-below zero a k l = absurd (omega arith)
  power-⊠-below (suc j) a zero l = rw (power-suc, ⊗_assoc, indeterminate-⊠, shift-0)
  power-⊠-below (suc j) a (suc k) l =
      rw (power-suc, ⊗_assoc, indeterminate-⊠, shift_suc) (power-⊠-below j a k (omega arith))

  module _ (N : Negation R) where
    pub series_negation : Negation series
    unfolding series
    series_negation = record { neg = λ a k. N.neg (a k); ⊕-neg = λ a. fun_ext λ k. N.⊕-neg (a k) }

    pub neg-at : (a : Series A) (k : ℕ) → series_negation.neg a k ≡ N.neg (a k)
    unfolding series_negation
    neg-at a k = refl
