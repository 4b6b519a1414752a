-- Commutative semirings. Assumes nothing.
--
--   Semiring A        a commutative semiring on A: 𝟘, 𝟙, _⊕_, _⊗_ and their laws
--   ⊕_assoc ⊕_comm ⊕-left_comm 𝟘-⊕ ⊕-𝟘          the sum is a commutative monoid
--   ⊗_assoc ⊗_comm ⊗-left_comm 𝟙-⊗ ⊗-𝟙          the product is a commutative monoid
--   ⊗-⊕ ⊕-⊗ 𝟘-⊗ ⊗-𝟘                             the product distributes over finite sums
--   ⊕_interchange     (a ⊕ b) ⊕ (c ⊕ d) is (a ⊕ c) ⊕ (b ⊕ d)
--   ring              the set of these laws: `simp ring` expands and sorts both sides of an identity
--   naturals          the natural numbers
use Rattle.std.specs.Prelude.{ℕ, ◌+◌, ◌*◌, ◌≡◌}
use Rattle.std.proofs.Common.{sym, ap, ◌∙◌, add_assoc, add_comm, mul-add, mul_assoc, mul_comm, one-mul, zero-add, zero-mul}

pub record Semiring (A : Type 0) : Type 0 where
  infixl 50 ◌⊕◌
  infixl 60 ◌⊗◌
  pub 𝟘 : A
  pub 𝟙 : A
  pub ◌⊕◌ : A → A → A
  pub ◌⊗◌ : A → A → A
  pub ⊕_assoc : (a b c : A) → a ⊕ b ⊕ c ≡ a ⊕ (b ⊕ c)
  pub ⊕_comm : (a b : A) → a ⊕ b ≡ b ⊕ a
  pub 𝟘-⊕ : (a : A) → 𝟘 ⊕ a ≡ a
  pub ⊗_assoc : (a b c : A) → a ⊗ b ⊗ c ≡ a ⊗ (b ⊗ c)
  pub ⊗_comm : (a b : A) → a ⊗ b ≡ b ⊗ a
  pub 𝟙-⊗ : (a : A) → 𝟙 ⊗ a ≡ a
  pub ⊗-⊕ : (a b c : A) → a ⊗ (b ⊕ c) ≡ a ⊗ b ⊕ a ⊗ c
  pub 𝟘-⊗ : (a : A) → 𝟘 ⊗ a ≡ 𝟘

module _ {A : Type 0} (R : Semiring A) where
  open R use {𝟘, 𝟙, ◌⊕◌, ◌⊗◌}

  pub ⊕_assoc : (a b c : A) → a ⊕ b ⊕ c ≡ a ⊕ (b ⊕ c)
  ⊕_assoc = R.⊕_assoc

  pub ⊕_comm : (a b : A) → a ⊕ b ≡ b ⊕ a
  ⊕_comm = R.⊕_comm

  pub ⊕-left_comm : (a b c : A) → a ⊕ (b ⊕ c) ≡ b ⊕ (a ⊕ c)
  ⊕-left_comm a b c = sym (⊕_assoc a b c) ∙ ap (λ s. s ⊕ c) (⊕_comm a b) ∙ ⊕_assoc b a c

  pub 𝟘-⊕ : (a : A) → 𝟘 ⊕ a ≡ a
  𝟘-⊕ = R.𝟘-⊕

  pub ⊕-𝟘 : (a : A) → a ⊕ 𝟘 ≡ a
  ⊕-𝟘 a = ⊕_comm a 𝟘 ∙ 𝟘-⊕ a

  pub ⊗_assoc : (a b c : A) → a ⊗ b ⊗ c ≡ a ⊗ (b ⊗ c)
  ⊗_assoc = R.⊗_assoc

  pub ⊗_comm : (a b : A) → a ⊗ b ≡ b ⊗ a
  ⊗_comm = R.⊗_comm

  pub ⊗-left_comm : (a b c : A) → a ⊗ (b ⊗ c) ≡ b ⊗ (a ⊗ c)
  ⊗-left_comm a b c = sym (⊗_assoc a b c) ∙ ap (λ s. s ⊗ c) (⊗_comm a b) ∙ ⊗_assoc b a c

  pub 𝟙-⊗ : (a : A) → 𝟙 ⊗ a ≡ a
  𝟙-⊗ = R.𝟙-⊗

  pub ⊗-𝟙 : (a : A) → a ⊗ 𝟙 ≡ a
  ⊗-𝟙 a = ⊗_comm a 𝟙 ∙ 𝟙-⊗ a

  pub ⊗-⊕ : (a b c : A) → a ⊗ (b ⊕ c) ≡ a ⊗ b ⊕ a ⊗ c
  ⊗-⊕ = R.⊗-⊕

  pub ⊕-⊗ : (a b c : A) → (a ⊕ b) ⊗ c ≡ a ⊗ c ⊕ b ⊗ c
  ⊕-⊗ a b c = rw (⊗_comm (a ⊕ b) c, ⊗-⊕, ⊗_comm c a, ⊗_comm c b)

  pub 𝟘-⊗ : (a : A) → 𝟘 ⊗ a ≡ 𝟘
  𝟘-⊗ = R.𝟘-⊗

  pub ⊗-𝟘 : (a : A) → a ⊗ 𝟘 ≡ 𝟘
  ⊗-𝟘 a = ⊗_comm a 𝟘 ∙ 𝟘-⊗ a

  pub ⊕_interchange : (a b c d : A) → a ⊕ b ⊕ (c ⊕ d) ≡ a ⊕ c ⊕ (b ⊕ d)
  ⊕_interchange a b c d = simp (⊕_assoc, ⊕-left_comm)

pub ruleset ring = (
  ⊕_assoc,
  ⊕_comm,
  ⊕-left_comm,
  𝟘-⊕,
  ⊕-𝟘,
  ⊗_assoc,
  ⊗_comm,
  ⊗-left_comm,
  𝟙-⊗,
  ⊗-𝟙,
  ⊗-⊕,
  ⊕-⊗,
  𝟘-⊗,
  ⊗-𝟘,
)

abbrev pub naturals : Semiring ℕ
naturals = record {
  𝟘 = 0;
  𝟙 = 1;
  ◌⊕◌ = ◌+◌;
  ◌⊗◌ = ◌*◌;
  ⊕_assoc = add_assoc;
  ⊕_comm = add_comm;
  𝟘-⊕ = zero-add;
  ⊗_assoc = mul_assoc;
  ⊗_comm = mul_comm;
  𝟙-⊗ = one-mul;
  ⊗-⊕ = mul-add;
  𝟘-⊗ = zero-mul;
}
