-- Commutative rings: a semiring together with a negation. Assumes nothing.
--
--   Negation R            a negation `neg` over the semiring R
--   ⊕-neg neg-⊕_self      a ⊕ neg a and neg a ⊕ a are 𝟘
--   ⊕-neg_cancel neg-⊕_cancel   a ⊕ (neg a ⊕ b) and neg a ⊕ (a ⊕ b) are b
--   ⊕_cancel              b is c if a ⊕ b is a ⊕ c
--   neg_unique            b is neg a if a ⊕ b is 𝟘
--   add-difference        b ⊕ (a ⊕ neg b) is a
--   equal_by_difference   a is b if a ⊕ neg b is 𝟘
--   neg-𝟘 neg-neg neg-⊕   negation is an involution that keeps sums
--   neg-⊗ ⊗-neg           a sign moves out of a product
--   signed                the set of these laws: `simp (ring, signed)` also cancels a beside neg a
use Rattle.std.specs.Prelude.{◌≡◌}
use Rattle.std.proofs.Common.{sym, ap, ◌∙◌}
use Rattle.algebra.specs.Semiring.{Semiring, ⊕-𝟘, ⊕-left_comm, ⊕_assoc, ⊕_comm, 𝟘-⊕, 𝟘-⊗, ⊕-⊗, ⊗_comm, ⊕_interchange}

pub record Negation {A : Type 0} (R : Semiring A) : Type 0 where
  pub neg : A → A
  pub ⊕-neg : (a : A) → R.◌⊕◌ a (neg a) ≡ R.𝟘

module _ {A : Type 0} (R : Semiring A) (N : Negation R) where
  open R use {𝟘, ◌⊕◌, ◌⊗◌}
  open N use {neg}

  pub ⊕-neg : (a : A) → a ⊕ neg a ≡ 𝟘
  ⊕-neg = N.⊕-neg

  pub neg-⊕_self : (a : A) → neg a ⊕ a ≡ 𝟘
  neg-⊕_self a = ⊕_comm R (neg a) a ∙ ⊕-neg a

  pub neg-⊕_cancel : (a b : A) → neg a ⊕ (a ⊕ b) ≡ b
  neg-⊕_cancel a b = rw (← ⊕_assoc R (neg a) a b, neg-⊕_self, 𝟘-⊕)

  pub ⊕-neg_cancel : (a b : A) → a ⊕ (neg a ⊕ b) ≡ b
  ⊕-neg_cancel a b = rw (← ⊕_assoc R a (neg a) b, ⊕-neg, 𝟘-⊕)

  pub ⊕_cancel : (a : A) {b c : A} → a ⊕ b ≡ a ⊕ c → b ≡ c
  ⊕_cancel a {b} {c} h = sym (neg-⊕_cancel a b) ∙ ap (λ s. neg a ⊕ s) h ∙ neg-⊕_cancel a c

  pub neg_unique : (a b : A) → a ⊕ b ≡ 𝟘 → b ≡ neg a
  neg_unique a b h = ⊕_cancel a (h ∙ sym (⊕-neg a))

  pub add-difference : (a b : A) → b ⊕ (a ⊕ neg b) ≡ a
  add-difference a b = rw (⊕-left_comm, ⊕-neg, ⊕-𝟘)

  pub equal_by_difference : (a b : A) → a ⊕ neg b ≡ 𝟘 → a ≡ b
  equal_by_difference a b h = sym (add-difference a b) ∙ rw (h, ⊕-𝟘)

  pub neg-𝟘 : neg 𝟘 ≡ 𝟘
  neg-𝟘 = sym (𝟘-⊕ R (neg 𝟘)) ∙ ⊕-neg 𝟘

  pub neg-neg : (a : A) → neg (neg a) ≡ a
  neg-neg a = sym (neg_unique (neg a) a (neg-⊕_self a))

  pub neg-⊕ : (a b : A) → neg (a ⊕ b) ≡ neg a ⊕ neg b
  neg-⊕ a b = sym (neg_unique (a ⊕ b) (neg a ⊕ neg b)
      (⊕_interchange R a b (neg a) (neg b) ∙ rw (⊕-neg a, ⊕-neg b, 𝟘-⊕)))

  pub neg-⊗ : (a b : A) → neg a ⊗ b ≡ neg (a ⊗ b)
  neg-⊗ a b = neg_unique (a ⊗ b) (neg a ⊗ b) (rw (← ⊕-⊗ R a (neg a) b, ⊕-neg, 𝟘-⊗))

  pub ⊗-neg : (a b : A) → a ⊗ neg b ≡ neg (a ⊗ b)
  ⊗-neg a b = rw (⊗_comm R a (neg b), neg-⊗, ⊗_comm R b a)

pub ruleset signed = (
  neg-𝟘,
  neg-neg,
  neg-⊕,
  neg-⊗,
  ⊗-neg,
  ⊕-neg,
  neg-⊕_self,
  neg-⊕_cancel,
  ⊕-neg_cancel,
)
