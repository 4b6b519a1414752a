-- Substitution of a series without constant term into a series. Assumes nothing.
--
--   partial_sum R a u n       the sum of a_i u^i over i < n; `partial_sum-at` gives its coefficients
--   substitute R a u          a(u): coefficient k is that of the sum of a_i u^i over i ≤ k
--   partial_sum-suc           Horner's rule: a_0 plus u times the partial sum of the tail
--   substitute-⊞              substitution into a sum of two series
--   substitute-constant-⊠     substitution into a constant times a series
--   substitute_agree          substitution respects agreement below a place, in a and in u
--
-- For u with constant term 𝟘, given as u and the proof of that:
--   recursion_unique          the equations F x = c x + u · F (next x) have at most one solution F
--   recursion_agree           two solutions below n agree below n
--   substitute_partial_sum    a(u) agrees below n with the sum of the first n terms
--   substitute_horner         a(u) is a_0 plus u times the substitution into the tail
--   substitute-0              its constant term is a_0
--   substitute-constant substitute-indeterminate substitute-indeterminate-⊠ substitute-⊠
--                             it takes c to c, x to u, x · a to u · a(u) and products to products
--   substitution              it is a homomorphism of the semiring of series
--   substitute_into_indeterminate   a(x) is a
--   substitute_assoc          (a(u))(w) is a(u(w))
--   substitute_assoc_agree    the same below n, where a(u) and u(w) are known below n
--
-- For lists of coefficients, taken along a homomorphism:
--   substitute-evaluate       substitution into the value of a list at s is its value at s(u)
--   substitute-coefficients   substitution into the series of a list is the value of the list at u
--   evaluate_assoc            (f(g))(u) is f(g(u)) below n, where f(g) is known below n, as a list
use Rattle.std.specs.Prelude.{ℕ, zero, suc, ◌+◌, List, ◌≡◌}
use Rattle.std.proofs.Common.{sym, ap, ◌∙◌, lt-suc_self, suc-add, arith}
use Rattle.std.proofs.Math.Path.{fun_ext}
use Rattle.std.proofs.Math.Nat.{le_dest}
use Rattle.algebra.specs.Agree.{
  Agree,
  agree_refl,
  agree_sym,
  agree_trans,
  agree_equal,
  agree_⊞,
  agree_⊠,
  agree_sum,
  agree_power,
  agree_1,
  equal_agree,
  vanish_agree_⊠,
}
use Rattle.algebra.specs.Evaluate.{evaluate, polynomial, map-evaluate, evaluate-indeterminate}
use Rattle.algebra.specs.Homomorphism.{
  Homomorphism,
  composite,
  constants,
  coefficients,
  coefficients-constant,
  coefficients-indeterminate,
  coefficientwise,
  constant-𝟘,
  constant-⊕,
  constant-⊗,
}
use Rattle.algebra.specs.Power.{power, power-0, power-suc}
use Rattle.algebra.specs.Semiring.{Semiring, ⊕-𝟘, 𝟘-⊕, 𝟘-⊗, ⊗-𝟘, ⊗-𝟙, ⊕-⊗, ⊗_assoc, ⊗-left_comm}
use Rattle.algebra.specs.Series.{
  Series,
  series,
  tail,
  constant,
  constant-0,
  constant-⊠-at,
  indeterminate,
  indeterminate-0,
  decompose,
  sum-at,
  ⊞-at,
  ⊠-0,
  𝟙-constant,
  tail-constant,
  shift,
  shift-0,
  tail-shift,
  indeterminate-⊠,
}
use Rattle.algebra.specs.Sum.{sum, sum_first, sum-⊕, ⊗-sum}

module _ {A : Type 0} (R : Semiring A) where
  infixl 50 ◌⊞◌
  infixl 60 ◌⊠◌
  open R use {𝟘, 𝟙, ◌⊗◌}
  open series R use {◌⊕◌ as ◌⊞◌, ◌⊗◌ as ◌⊠◌}

  unfoldable pub partial_sum : Series A → Series A → ℕ → Series A
  partial_sum a u n = sum (series R) n (λ i. constant R (a i) ⊠ power (series R) u i)

  pub partial_sum-at : (a u : Series A) (n k : ℕ)
      → partial_sum a u n k ≡ sum R n (λ i. a i ⊗ power (series R) u i k)
  unfolding partial_sum
  partial_sum-at a u n k = rw sum-at (simp constant-⊠-at)

  pub substitute : Series A → Series A → Series A
  substitute a u k = partial_sum a u (suc k) k

  pub partial_sum-suc : (a u : Series A) (n : ℕ)
      → partial_sum a u (suc n) ≡ constant R (a 0) ⊞ u ⊠ partial_sum (tail a) u n
  unfolding partial_sum
  partial_sum-suc a u n =
      rw (sum_first (series R) n (λ i. constant R (a i) ⊠ power (series R) u i), power-0, ⊗-𝟙, ⊗-sum)
      (simp (power-suc, ⊗-left_comm))

  partial_sum-⊞ : (a b u : Series A) (n : ℕ)
      → partial_sum (a ⊞ b) u n ≡ partial_sum a u n ⊞ partial_sum b u n
  unfolding partial_sum
  partial_sum-⊞ a b u n = simp (⊞-at, constant-⊕, ⊕-⊗, sum-⊕)

  pub substitute-⊞ : (a b u : Series A) → substitute (a ⊞ b) u ≡ substitute a u ⊞ substitute b u
  unfolding substitute
  substitute-⊞ a b u = fun_ext λ k. rw (partial_sum-⊞ a b u (suc k), ⊞-at, ⊞-at)

  partial_sum-constant-⊠ : (c : A) (a u : Series A) (n : ℕ)
      → partial_sum (constant R c ⊠ a) u n ≡ constant R c ⊠ partial_sum a u n
  unfolding partial_sum
  partial_sum-constant-⊠ c a u n = simp (constant-⊠-at, constant-⊗, ⊗_assoc, ⊗-sum)

  pub substitute-constant-⊠ : (c : A) (a u : Series A)
      → substitute (constant R c ⊠ a) u ≡ constant R c ⊠ substitute a u
  unfolding substitute
  substitute-constant-⊠ c a u = fun_ext λ k.
      rw (partial_sum-constant-⊠ c a u (suc k), constant-⊠-at, constant-⊠-at)

  pub substitute_agree : {n : ℕ} {a b u w : Series A} → Agree n a b → Agree n u w
      → Agree n (substitute a u) (substitute b w)
  unfolding substitute partial_sum
  substitute_agree h g k l =
      agree_sum R (suc k)
      (λ i b. agree_⊠ R (agree_equal (ap (constant R) (h i (omega arith)))) (agree_power R i g)) k l

  module _ (u : Series A) (h : u 0 ≡ 𝟘) where
    agree_further : {n : ℕ} (c : Series A) {a b : Series A} → Agree n a b
        → Agree (suc n) (c ⊞ u ⊠ a) (c ⊞ u ⊠ b)
    agree_further c e =
        agree_⊞ R (agree_refl c) (λ k l. vanish_agree_⊠ R 1 (agree_1 u (λ i. 𝟘) h) e k (omega arith))

    module _ {X : Type 0} (c : X → Series A) (next : X → X) (F G : X → Series A) where
      pub recursion_agree : (n : ℕ) → ((x : X) → Agree n (F x) (c x ⊞ u ⊠ F (next x)))
          → ((x : X) → Agree n (G x) (c x ⊞ u ⊠ G (next x))) → (x : X) → Agree n (F x) (G x)
      recursion_agree zero f g x = λ k l. absurd (omega arith)
      recursion_agree (suc n) f g x =
          let e : Agree n (F (next x)) (G (next x)) =
          recursion_agree n (λ y k l. f y k (omega arith)) (λ y k l. g y k (omega arith)) (next x) in
          agree_trans (f x) (agree_trans (agree_further (c x) e) (agree_sym (g x)))

      pub recursion_unique : ((x : X) → F x ≡ c x ⊞ u ⊠ F (next x))
          → ((x : X) → G x ≡ c x ⊞ u ⊠ G (next x)) → (x : X) → F x ≡ G x
      recursion_unique f g x =
          equal_agree (λ n. recursion_agree n (λ y. agree_equal (f y)) (λ y. agree_equal (g y)) x)

    partial_sum-+ : (n j : ℕ) (a : Series A) → Agree n (partial_sum a u (n + j)) (partial_sum a u n)
    partial_sum-+ zero j a = λ k l. absurd (omega arith)
    partial_sum-+ (suc n) j a =
        rw (suc-add, partial_sum-suc, partial_sum-suc)
        (agree_further (constant R (a 0)) (partial_sum-+ n j (tail a)))

    pub substitute_partial_sum : (a : Series A) (n : ℕ) → Agree n (substitute a u) (partial_sum a u n)
    unfolding substitute
    substitute_partial_sum a n k l =
        let (j, e) = le_dest l in
        rw (← e) (sym (partial_sum-+ (suc k) j a k (lt-suc_self k)))

    pub substitute_horner : (a : Series A)
        → substitute a u ≡ constant R (a 0) ⊞ u ⊠ substitute (tail a) u
    unfolding substitute
    substitute_horner a = fun_ext λ k.
        rw (partial_sum-suc a u k)
        (agree_further (constant R (a 0))
        (agree_sym (substitute_partial_sum (tail a) k)) k (lt-suc_self k))

    pub substitute-0 : (a : Series A) → substitute a u 0 ≡ a 0
    substitute-0 a = rw (substitute_horner a, ⊞-at, ⊠-0, h, 𝟘-⊗, ⊕-𝟘, constant-0)

    pub substitute-constant : (c : A) → substitute (constant R c) u ≡ constant R c
    substitute-constant = recursion_unique
        (constant R) (λ c. 𝟘) (λ c. substitute (constant R c) u) (constant R)
        (λ c. rw (substitute_horner (constant R c), constant-0, tail-constant))
        (λ c. rw (constant-𝟘, ⊗-𝟘, ⊕-𝟘))

    pub substitute-indeterminate-⊠ : (a : Series A)
        → substitute (indeterminate R ⊠ a) u ≡ u ⊠ substitute a u
    substitute-indeterminate-⊠ a =
        rw (indeterminate-⊠, substitute_horner (shift R a), shift-0, tail-shift, constant-𝟘, 𝟘-⊕)

    pub substitute-⊠ : (a b : Series A) → substitute (a ⊠ b) u ≡ substitute a u ⊠ substitute b u
    substitute-⊠ a b = recursion_unique
        (λ a. constant R (a 0) ⊠ substitute b u) tail
        (λ a. substitute (a ⊠ b) u) (λ a. substitute a u ⊠ substitute b u)
        (λ a. ap (λ s. substitute (s ⊠ b) u) (decompose R a)
        ∙ rw (⊕-⊗, ⊗_assoc, substitute-⊞, substitute-constant-⊠, substitute-indeterminate-⊠))
        (λ a. rw (substitute_horner a, ⊕-⊗, ⊗_assoc)) a

    abbrev pub substitution : Homomorphism (series R) (series R)
    substitution = record {
      map = λ a. substitute a u;
      map-𝟘 = rw (← constant-𝟘 R) (substitute-constant 𝟘);
      map-𝟙 = rw 𝟙-constant (substitute-constant 𝟙);
      map-⊕ = λ a b. substitute-⊞ a b u;
      map-⊗ = substitute-⊠;
    }

    pub substitute-indeterminate : substitute (indeterminate R) u ≡ u
    substitute-indeterminate =
        rw (← ⊗-𝟙 (series R) (indeterminate R), substitute-indeterminate-⊠, substitution.map-𝟙, ⊗-𝟙)

  pub substitute_into_indeterminate : (a : Series A) → substitute a (indeterminate R) ≡ a
  substitute_into_indeterminate = recursion_unique (indeterminate R) (indeterminate-0 R)
      (λ a. constant R (a 0)) tail (λ a. substitute a (indeterminate R)) (λ a. a)
      (substitute_horner (indeterminate R) (indeterminate-0 R)) (decompose R)

  pub substitute_assoc : (a u w : Series A) → u 0 ≡ 𝟘 → w 0 ≡ 𝟘
      → substitute (substitute a u) w ≡ substitute a (substitute u w)
  substitute_assoc a u w h g = recursion_unique (substitute u w) e
      (λ a. constant R (a 0)) tail
      (λ a. substitute (substitute a u) w) (λ a. substitute a (substitute u w))
      (λ a. rw (substitute_horner u h a, substitute-⊞, substitute-constant w g, substitute-⊠ w g))
      (substitute_horner (substitute u w) e) a
    where
      e : substitute u w 0 ≡ 𝟘
      e = substitute-0 w g u ∙ h

  pub substitute_assoc_agree : {n : ℕ} (a u w : Series A) {b v : Series A} → u 0 ≡ 𝟘 → w 0 ≡ 𝟘
      → Agree n b (substitute a u) → Agree n v (substitute u w)
      → Agree n (substitute b w) (substitute a v)
  substitute_assoc_agree a u w h g e d =
      agree_trans (substitute_agree e (agree_refl w))
      (rw (substitute_assoc a u w h g) (substitute_agree (agree_refl a) (agree_sym d)))

-- Lists over S, their coefficients taken along φ.
module _ {A B : Type 0} {R : Semiring A} {S : Semiring B} (φ : Homomorphism S R) where
  abbrev scalars : Homomorphism S (series R)
  scalars = composite (constants R) φ

  module _ (u : Series A) (h : u 0 ≡ R.𝟘) where
    pub substitute-evaluate : (f : List B) (s : Series A)
        → substitute R (evaluate (composite (constants R) φ) f s) u ≡ evaluate (composite (constants R) φ) f (substitute R s u)
    substitute-evaluate =
        map-evaluate (substitution R u h) scalars scalars (λ b. substitute-constant R u h (φ.map b))

    pub substitute-coefficients : (f : List B)
        → substitute R (coefficients φ (polynomial S f)) u ≡ evaluate (composite (constants R) φ) f u
    substitute-coefficients f =
        rw (
          ← evaluate-indeterminate S f,
          map-evaluate (coefficientwise φ) (constants S) scalars (coefficients-constant φ) f,
          coefficients-indeterminate φ,
          substitute-evaluate f,
          substitute-indeterminate R u h,
        )

    pub evaluate_assoc : {n : ℕ} (f g c : List B)
        → Agree n (coefficients φ (polynomial S c))
        (evaluate (composite (constants R) φ) f (coefficients φ (polynomial S g)))
        → Agree n (evaluate (composite (constants R) φ) c u)
        (evaluate (composite (constants R) φ) f (evaluate (composite (constants R) φ) g u))
    evaluate_assoc f g c e =
        rw (← substitute-coefficients c, ← substitute-coefficients g, ← substitute-evaluate f)
        (substitute_agree R e (agree_refl u))
