-- The formal derivative of a series. Assumes nothing.
--
--   derivative R a        a': coefficient k is (k + 1) a_(k+1)
--   derivative-at derivative-0   its coefficients
--   derivative_vanish     the derivative of a series that vanishes below n + 1 vanishes below n
--   derivative-⊞ derivative-⊠   the derivative of a sum and of a product
--   derivative-constant derivative-constant-⊠ derivative-indeterminate derivative-indeterminate-⊠
--                         the derivatives of c, c a, x and x a
--   derivative-decompose  a' is tail(a) plus x times the derivative of tail(a)
--   derivative-substitute the chain rule: a(u)' is a'(u) u', for u without constant term
--   substitute_expand     a(u + δ) is a(u) + a'(u) δ below 2n, for δ that vanishes below n > 0
use Rattle.std.specs.Prelude.{ℕ, suc, ◌+◌, ◌≡◌}
use Rattle.std.proofs.Math.Path.{refl, fun_ext}
use Rattle.std.proofs.Common.{sym, ap, ◌∙◌, arith}
use Rattle.algebra.specs.Agree.{Agree, Vanish, agree_equal, agree_sym, agree_⊞_vanish, vanish_⊠, vanish_multiple}
use Rattle.algebra.specs.Natural.{natural, natural-1, natural-suc}
use Rattle.algebra.specs.Semiring.{Semiring, ring, ⊕_comm, 𝟘-⊕, ⊕-𝟘, ⊗_assoc, ⊗-left_comm, 𝟙-⊗, ⊗-𝟙, ⊗-𝟘, ⊗-⊕, ⊕-⊗}
use Rattle.algebra.specs.Series.{
  Series,
  constant,
  constant-suc,
  constant-⊠-at,
  decompose,
  equal_by_tail,
  indeterminate,
  indeterminate-0,
  indeterminate-⊠,
  series,
  shift-0,
  shift_suc,
  tail,
  𝟘-at,
  𝟙-constant,
  ⊞-at,
}
use Rattle.algebra.specs.Substitution.{
  recursion_agree,
  recursion_unique,
  substitute,
  substitute_horner,
  substitute-indeterminate,
  substitute-⊞,
  substitute-⊠,
}

module _ {A : Type 0} (R : Semiring A) where
  open R use {◌⊕◌, ◌⊗◌}

  -- Horner's rule at u + δ, to first order
  expand_step : (c u δ s d : A)
      → c ⊕ (u ⊕ δ) ⊗ (s ⊕ d ⊗ δ) ≡ c ⊕ u ⊗ s ⊕ (s ⊕ u ⊗ d) ⊗ δ ⊕ δ ⊗ δ ⊗ d
  expand_step c u δ s d = simp ring

module _ {A : Type 0} (R : Semiring A) where
  open R use {𝟘, ◌⊗◌}
  open series R use {𝟘 as 𝟘ˢ, 𝟙 as 𝟙ˢ, ◌⊕◌ as ◌⊞◌, ◌⊗◌ as ◌⊠◌}

  infixl 50 ◌⊞◌
  infixl 60 ◌⊠◌
  pub derivative : Series A → Series A
  derivative a k = natural R (suc k) ⊗ a (suc k)

  pub derivative-at : (a : Series A) (k : ℕ) → derivative a k ≡ natural R (suc k) ⊗ a (suc k)
  unfolding derivative
  derivative-at a k = refl

  pub derivative-0 : (a : Series A) → derivative a 0 ≡ a 1
  derivative-0 a = rw (derivative-at, natural-1 R, 𝟙-⊗)

  pub derivative_vanish : {n : ℕ} {a : Series A} → Vanish R (suc n) a → Vanish R n (derivative a)
  derivative_vanish h k l = rw (derivative-at, h (suc k) (omega arith), ⊗-𝟘)

  pub derivative-⊞ : (a b : Series A) → derivative (a ⊞ b) ≡ derivative a ⊞ derivative b
  derivative-⊞ a b = fun_ext λ k. simp (derivative-at, ⊞-at, ⊗-⊕)

  pub derivative-constant : (c : A) → derivative (constant R c) ≡ 𝟘ˢ
  derivative-constant c = fun_ext λ k. rw (derivative-at, constant-suc, ⊗-𝟘, 𝟘-at)

  pub derivative-constant-⊠ : (c : A) (a : Series A)
      → derivative (constant R c ⊠ a) ≡ constant R c ⊠ derivative a
  derivative-constant-⊠ c a = fun_ext λ k. simp (derivative-at, constant-⊠-at, ⊗-left_comm)

  pub derivative-indeterminate-⊠ : (a : Series A)
      → derivative (indeterminate R ⊠ a) ≡ a ⊞ indeterminate R ⊠ derivative a
  derivative-indeterminate-⊠ a =
      rw (indeterminate-⊠, indeterminate-⊠)
      (equal_by_tail
      (rw (derivative-0, ⊞-at, shift-0, shift_suc, ⊕-𝟘))
      (λ k. rw (derivative-at, ⊞-at, shift_suc, shift_suc, derivative-at, natural-suc R (suc k))
      (rw (⊕-⊗, 𝟙-⊗, ⊕_comm))))

  pub derivative-indeterminate : derivative (indeterminate R) ≡ 𝟙ˢ
  derivative-indeterminate =
      ap derivative (sym (⊗-𝟙 (series R) (indeterminate R)))
      ∙ rw (derivative-indeterminate-⊠, 𝟙-constant, derivative-constant, ⊗-𝟘, ⊕-𝟘)

  pub derivative-decompose : (a : Series A)
      → derivative a ≡ tail a ⊞ indeterminate R ⊠ derivative (tail a)
  derivative-decompose a =
      ap derivative (decompose R a)
      ∙ rw (derivative-⊞, derivative-constant, derivative-indeterminate-⊠, 𝟘-⊕)

  pub derivative-⊠ : (a b : Series A) → derivative (a ⊠ b) ≡ derivative a ⊠ b ⊞ a ⊠ derivative b
  derivative-⊠ a b =
      recursion_unique R (indeterminate R) (indeterminate-0 R)
      (λ a. tail a ⊠ b ⊞ constant R (a 0) ⊠ derivative b) tail
      (λ a. derivative (a ⊠ b)) (λ a. derivative a ⊠ b ⊞ a ⊠ derivative b)
      (λ a. ap (λ s. derivative (s ⊠ b)) (decompose R a)
      ∙ rw (⊕-⊗, ⊗_assoc, derivative-⊞, derivative-constant-⊠, derivative-indeterminate-⊠)
      (simp ring))
      (λ a. ap (λ s. derivative a ⊠ b ⊞ s ⊠ derivative b) (decompose R a)
      ∙ rw (derivative-decompose a) (simp ring))
      a

  module _ (u : Series A) (h : u 0 ≡ 𝟘) where
    pub derivative-substitute : (a : Series A)
        → derivative (substitute R a u) ≡ substitute R (derivative a) u ⊠ derivative u
    derivative-substitute =
        recursion_unique R u h
        (λ a. substitute R (tail a) u ⊠ derivative u) tail
        (λ a. derivative (substitute R a u)) (λ a. substitute R (derivative a) u ⊠ derivative u)
        (λ a. rw (substitute_horner R u h a, derivative-⊞, derivative-constant, derivative-⊠)
        (simp ring))
        (λ a. rw (derivative-decompose a, substitute-⊞ R, substitute-⊠ R u h)
        (rw (substitute-indeterminate R u h) (simp ring)))

    expand_horner : (δ a : Series A)
        → constant R (a 0)
        ⊞ (u ⊞ δ) ⊠ (substitute R (tail a) u ⊞ substitute R (derivative (tail a)) u ⊠ δ)
        ≡ substitute R a u ⊞ substitute R (derivative a) u ⊠ δ
        ⊞ δ ⊠ δ ⊠ substitute R (derivative (tail a)) u
    expand_horner δ a =
        rw (
          substitute_horner R u h a,
          derivative-decompose a,
          substitute-⊞ R (tail a),
          substitute-⊠ R u h,
          substitute-indeterminate R u h,
        )
        (expand_step (series R) (constant R (a 0)) u δ _ _)

    pub substitute_expand : {n : ℕ} {δ : Series A} → Vanish R (suc n) δ → (a : Series A)
        → Agree (suc n + suc n) (substitute R a (u ⊞ δ))
        (substitute R a u ⊞ substitute R (derivative a) u ⊠ δ)
    substitute_expand {n} {δ} v =
        let e : (u ⊞ δ) 0 ≡ 𝟘 = rw (⊞-at, h, v 0 (omega arith), ⊕-𝟘) in
        let square : Vanish R (suc n + suc n) (δ ⊠ δ) = vanish_⊠ R (suc n) (suc n) v v in
        recursion_agree R (u ⊞ δ) e (λ a. constant R (a 0)) tail
        (λ a. substitute R a (u ⊞ δ))
        (λ a. substitute R a u ⊞ substitute R (derivative a) u ⊠ δ)
        (suc n + suc n)
        (λ a. agree_equal (substitute_horner R (u ⊞ δ) e a))
        (λ a. agree_sym (rw (expand_horner δ a) (agree_⊞_vanish R _ (vanish_multiple R _ square))))
