-- Homomorphisms of semirings. Assumes nothing.
--
--   Homomorphism R S      a map that keeps 𝟘, 𝟙, sums and products
--   map-power map-sum map-neg map-cond   it keeps powers, finite sums, negation, and 𝟘 in place of a value
--   composite ψ φ         ψ after φ
--   constants R           the embedding of R into the series over R
--   constant-𝟘 constant-⊕ constant-⊗   constants of 𝟘, of sums and of products
--   constant-term R       coefficient 0 of a series
--   coefficients φ a      φ applied to each coefficient of a
--   coefficientwise φ     this is a homomorphism of series
--   coefficients-at coefficients-constant coefficients-shift coefficients-indeterminate
--                         its coefficients, and its values at constants, at shifts and at x
--   map-⊠                 φ at a coefficient of a product of series
use Prim.Native.Nat.{ℕ, zero, suc}
use Rattle.std.specs.Prelude.{Bool, true, false, cond, ◌≡◌}
use Rattle.std.proofs.Math.Path.{refl, fun_ext}
use Rattle.std.proofs.Common.{sym, ◌∙◌}
use Rattle.algebra.specs.Negation.{Negation, neg_unique}
use Rattle.algebra.specs.Power.{power, power-0, power-suc}
use Rattle.algebra.specs.Semiring.{Semiring, ⊕-𝟘, ⊗-𝟘}
use Rattle.algebra.specs.Series.{
  Series,
  series,
  tail,
  constant,
  constant-0,
  constant-suc,
  constant-⊠-at,
  indeterminate,
  𝟘-at,
  𝟙-constant,
  ⊞-at,
  ⊠-0,
  ⊠-suc,
  shift,
  shift-0,
  shift_suc,
  equal_by_tail,
  indeterminate-shift,
}
use Rattle.algebra.specs.Sum.{sum, sum-0, sum-suc}

pub record Homomorphism {A B : Type 0} (R : Semiring A) (S : Semiring B) : Type 0 where
  pub map : A → B
  pub map-𝟘 : map R.𝟘 ≡ S.𝟘
  pub map-𝟙 : map R.𝟙 ≡ S.𝟙
  pub map-⊕ : (a b : A) → map (R.◌⊕◌ a b) ≡ S.◌⊕◌ (map a) (map b)
  pub map-⊗ : (a b : A) → map (R.◌⊗◌ a b) ≡ S.◌⊗◌ (map a) (map b)

module _ {A B : Type 0} {R : Semiring A} {S : Semiring B} (φ : Homomorphism R S) where
  open φ use {map, map-𝟘, map-𝟙, map-⊕, map-⊗}

  pub map-power : (a : A) (k : ℕ) → map (power R a k) ≡ power S (map a) k
  map-power a zero = rw (power-0, power-0, map-𝟙)
  map-power a (suc k) = rw (power-suc, power-suc, map-⊗, map-power a k)

  pub map-sum : (n : ℕ) (f : ℕ → A) → map (sum R n f) ≡ sum S n (λ i. map (f i))
  map-sum zero f = rw (sum-0, sum-0, map-𝟘)
  map-sum (suc n) f = rw (sum-suc, sum-suc, map-⊕, map-sum n f)

  pub map-neg : (N : Negation R) (M : Negation S) (a : A) → map (N.neg a) ≡ M.neg (map a)
  map-neg N M a = neg_unique S M (map a) (map (N.neg a)) (rw (← map-⊕ a (N.neg a), N.⊕-neg) map-𝟘)

  pub map-cond : (b : Bool) (a : A) → map (cond b a R.𝟘) ≡ cond b (map a) S.𝟘
  map-cond true a = refl
  map-cond false a = map-𝟘

  pub coefficients : Series A → Series B
  coefficients a k = map (a k)

  pub coefficients-at : (a : Series A) (k : ℕ) → coefficients a k ≡ map (a k)
  unfolding coefficients
  coefficients-at a k = refl

  pub coefficients-constant : (c : A) → coefficients (constant R c) ≡ constant S (map c)
  coefficients-constant c = equal_by_tail
      (rw (coefficients-at, constant-0, constant-0))
      (λ k. rw (coefficients-at, constant-suc, constant-suc, map-𝟘))

  pub coefficients-shift : (a : Series A) → coefficients (shift R a) ≡ shift S (coefficients a)
  coefficients-shift a = equal_by_tail
      (rw (coefficients-at, shift-0, shift-0, map-𝟘))
      (λ k. rw (coefficients-at, shift_suc, shift_suc, coefficients-at))

  pub map-⊠ : (a b : Series A) (k : ℕ)
      → map ((series R).◌⊗◌ a b k) ≡ (series S).◌⊗◌ (coefficients a) (coefficients b) k
  unfolding coefficients
  map-⊠ a b zero = rw (⊠-0, ⊠-0, map-⊗)
  map-⊠ a b (suc k) = rw (⊠-suc, ⊠-suc, map-⊕, map-⊗, map-⊠ (tail a) b k)

  abbrev pub coefficientwise : Homomorphism (series R) (series S)
  coefficientwise = record {
    map = coefficients;
    map-𝟘 = fun_ext λ k. rw (coefficients-at, 𝟘-at, 𝟘-at, map-𝟘);
    map-𝟙 = rw (𝟙-constant, 𝟙-constant, coefficients-constant, map-𝟙);
    map-⊕ = λ a b. fun_ext λ k. simp (coefficients-at, ⊞-at, map-⊕);
    map-⊗ = λ a b. fun_ext λ k. coefficients-at ((series R).◌⊗◌ a b) k ∙ map-⊠ a b k;
  }

  pub coefficients-indeterminate : coefficients (indeterminate R) ≡ indeterminate S
  coefficients-indeterminate =
      rw (indeterminate-shift, indeterminate-shift, coefficients-shift, coefficientwise.map-𝟙)

module _ {A B C : Type 0} {R : Semiring A} {S : Semiring B} {T : Semiring C} where
  abbrev pub composite : Homomorphism S T → Homomorphism R S → Homomorphism R T
  composite ψ φ = record {
    map = λ a. ψ.map (φ.map a);
    map-𝟘 = rw (φ.map-𝟘, ψ.map-𝟘);
    map-𝟙 = rw (φ.map-𝟙, ψ.map-𝟙);
    map-⊕ = λ a b. rw (φ.map-⊕, ψ.map-⊕);
    map-⊗ = λ a b. rw (φ.map-⊗, ψ.map-⊗);
  }

module _ {A : Type 0} (R : Semiring A) where
  infixl 50 ◌⊞◌
  infixl 60 ◌⊠◌
  open R use {𝟘, 𝟙, ◌⊕◌, ◌⊗◌}
  open series R use {𝟘 as 𝟘ˢ, ◌⊕◌ as ◌⊞◌, ◌⊗◌ as ◌⊠◌}

  pub constant-𝟘 : constant R 𝟘 ≡ 𝟘ˢ
  constant-𝟘 = equal_by_tail (rw (constant-0, 𝟘-at)) (λ k. rw (constant-suc, 𝟘-at))

  pub constant-⊕ : (a b : A) → constant R (a ⊕ b) ≡ constant R a ⊞ constant R b
  constant-⊕ a b = equal_by_tail (simp (⊞-at, constant-0)) (λ k. simp (⊞-at, constant-suc, ⊕-𝟘))

  pub constant-⊗ : (a b : A) → constant R (a ⊗ b) ≡ constant R a ⊠ constant R b
  constant-⊗ a b = equal_by_tail
      (simp (constant-⊠-at, constant-0)) (λ k. simp (constant-⊠-at, constant-suc, ⊗-𝟘))

  abbrev pub constants : Homomorphism R (series R)
  constants = record {
    map = constant R;
    map-𝟘 = constant-𝟘;
    map-𝟙 = sym (𝟙-constant R);
    map-⊕ = constant-⊕;
    map-⊗ = constant-⊗;
  }

  abbrev pub constant-term : Homomorphism (series R) R
  constant-term = record {
    map = λ a. a 0;
    map-𝟘 = 𝟘-at R 0;
    map-𝟙 = rw 𝟙-constant (constant-0 R 𝟙);
    map-⊕ = λ a b. ⊞-at R a b 0;
    map-⊗ = ⊠-0 R;
  }
