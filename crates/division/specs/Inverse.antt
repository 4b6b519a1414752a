-- The inverse of 1 - C by doubling, over series of any semiring, for a series C without constant term.
--
-- ⊞ and ⊠ are the operations of the series, y is the indeterminate.
--
--   Inverse R n C U      U is 1 + C U below n
--   inverse_agree        what agrees below n with an inverse is one
--   inverse-first        below 1, the constant term 𝟙 is an inverse
--   inverse-doubled      from an inverse U below k one below 2 k: U below k, and behind it the product of U and what C U has from k on
--   inverse-quotient     P U is P / Q below n, where C is 1 - Q but for the constant term
-- Assumes nothing.
use Rattle.std.specs.Prelude.{ℕ, zero, suc, ◌+◌, ◌-◌, ◌<◌, ◌≤◌, ◌≡◌}
use Rattle.std.proofs.Math.Decide.{dec_lt}
use Rattle.std.proofs.Math.Nat.{sub_self}
use Rattle.std.proofs.Common.{arith, ap, ◌∙◌}
use Rattle.algebra.specs.Agree.{
  Agree,
  agree_1,
  agree_refl,
  agree_suc,
  agree_sym,
  agree_trans,
  agree_weaken,
  agree_⊞,
  agree_⊞_vanish,
  agree_⊠,
  equal_agree,
  vanish_⊠,
}
use Rattle.algebra.specs.Cut.{cut, cut_below, cut_beyond, window}
use Rattle.algebra.specs.Negation.{Negation}
use Rattle.algebra.specs.Power.{power}
use Rattle.algebra.specs.Quotient.{quotient, quotient-next}
use Rattle.algebra.specs.Semiring.{Semiring, ring, 𝟘-⊕, ⊕-𝟘, 𝟘-⊗, ⊗-𝟘, ⊗_assoc, ⊗_comm}
use Rattle.algebra.specs.Series.{
  Series,
  series,
  constant-0,
  constant-above,
  indeterminate,
  power-⊠-above,
  power-⊠-below,
  𝟙-constant,
  ⊞-at,
  ⊠-0,
  ⊠-at,
}
use Rattle.algebra.specs.Sum.{sum_cong, sum-suc}

module _ {A : Type 0} (R : Semiring A) where
  open R use {𝟙, ◌⊕◌, ◌⊗◌}

  -- if 1 + c x is x + d, then 1 + c z is z + d d for z = x + d x
  error_squared : (c x d : A) → 𝟙 ⊕ c ⊗ x ≡ x ⊕ d → 𝟙 ⊕ c ⊗ (x ⊕ d ⊗ x) ≡ x ⊕ d ⊗ x ⊕ d ⊗ d
  error_squared c x d h =
      let before : 𝟙 ⊕ c ⊗ (x ⊕ d ⊗ x) ≡ 𝟙 ⊕ c ⊗ x ⊕ d ⊗ (c ⊗ x) = simp ring in
      let between : x ⊕ d ⊕ d ⊗ (c ⊗ x) ≡ x ⊕ d ⊗ (𝟙 ⊕ c ⊗ x) = simp ring in
      let after : x ⊕ d ⊗ (x ⊕ d) ≡ x ⊕ d ⊗ x ⊕ d ⊗ d = simp ring in
      rw (before, h, between, h) after

  multiplied : (a c u : A) → a ⊗ (𝟙 ⊕ c ⊗ u) ≡ a ⊕ c ⊗ (a ⊗ u)
  multiplied a c u = simp ring

pub record Inverse {A : Type 0} (R : Semiring A) (n : ℕ) (C U : Series A) : Type 0 where
  pub agrees : Agree n U ((series R).◌⊕◌ (series R).𝟙 ((series R).◌⊗◌ C U))

module _ {A : Type 0} (R : Semiring A) where
  open R use {𝟘, 𝟙}
  open series R use {𝟙 as 𝟙ˢ, ◌⊕◌ as ◌⊞◌, ◌⊗◌ as ◌⊠◌}

  infixl 50 ◌⊞◌
  infixl 60 ◌⊠◌
  pub inverse_agree : {n : ℕ} {C D T U : Series A} → Agree n D C → Agree n T U → Inverse R n C U → Inverse R n D T
  inverse_agree g h inverse = record {
    agrees = agree_trans h (agree_trans inverse.agrees (agree_⊞ R (agree_refl _) (agree_sym (agree_⊠ R g h))));
  }

  pub inverse-first : (C U : Series A) → C 0 ≡ 𝟘 → U 0 ≡ 𝟙 → Inverse R 1 C U
  inverse-first C U c u = record { agrees = agree_1 U _ (rw (u, ⊞-at R, 𝟙-constant R, constant-0 R, ⊠-0 R, c, 𝟘-⊗ R, ⊕-𝟘 R)) }

  -- y^k F
  abbrev above : ℕ → Series A → Series A
  above k F = power (series R) (indeterminate R) k ⊠ F

  -- a series that is X below k, where X ends, and F from k on
  beside : (k n : ℕ) {S X F : Series A} → Agree k S X → ((i : ℕ) → k ≤ i → X i ≡ 𝟘) → ((j : ℕ) → k + j < n → S (k + j) ≡ F j)
      → Agree n S (X ⊞ above k F)
  beside k n {S} {X} {F} low ends high i l = at (dec_lt i k)
    where
      at : Dec (i < k) → S i ≡ (X ⊞ above k F) i
      at (yes b) = rw (⊞-at R, power-⊠-below R k F i b, ⊕-𝟘 R) (low i b)
      at (no b) =
          let e : k + (i - k) ≡ i = omega arith in
          rw (← e, ⊞-at R, ends (k + (i - k)) (omega arith), 𝟘-⊕ R, power-⊠-above R k F (i - k)) (high (i - k) (omega arith))

  module _ {k : ℕ} {C U : Series A} (positive : 0 < k) (inverse : Inverse R k C U) where
    abbrev X : Series A
    X = cut R k U

    abbrev E : Series A
    E = window k (X ⊠ C)

    -- what X lacks
    abbrev d : Series A
    d = above k E

    lacking : 𝟙ˢ ⊞ C ⊠ X ≡ X ⊞ d
    lacking = equal_agree λ n.
        beside k n (agree_sym (inverse_agree (agree_refl C) (cut_below R k U) inverse).agrees) (cut_beyond R k U)
        (λ j b. rw (⊞-at R, 𝟙-constant R, constant-above R 𝟙 (k + j) (omega arith), 𝟘-⊕ R, ⊗_comm (series R) C X))

    further : {n : ℕ} → n ≤ k + k → Inverse R n C (X ⊞ d ⊠ X)
    further far = record {
      agrees =
          agree_sym
          (rw (error_squared (series R) C X d lacking)
          (agree_weaken far (agree_⊞_vanish R _ (vanish_⊠ R k k (power-⊠-below R k E) (power-⊠-below R k E)))));
    }

    shifted : d ⊠ X ≡ above k (E ⊠ X)
    shifted = ⊗_assoc (series R) _ E X

    pub inverse-doubled : {n : ℕ} {T : Series A} → n ≤ k + k → Agree k T U → Agree (n - k) (window k T) (E ⊠ U) → Inverse R n C T
    inverse-doubled {n} far low high =
        let near = agree_sym (cut_below R k U) in
        inverse_agree (agree_refl C)
        (beside k n (agree_trans low near) (cut_beyond R k U)
        (λ j b. agree_trans high (agree_⊠ R (agree_refl E) (agree_weaken (omega arith) near)) j (omega arith)))
        (rw shifted at (further far))

  module _ (N : Negation R) (C Q : Series A) (no_constant : C 0 ≡ 𝟘) (opposite : (j : ℕ) → 0 < j → C j ≡ N.neg (Q j)) where
    -- P / Q is the one series that is P + C times it
    quotient_agree : (n : ℕ) (P U : Series A) → Agree n U (P ⊞ C ⊠ U) → Agree n U (quotient R N P Q)
    quotient_agree zero P U h = λ k l. absurd (omega arith)
    quotient_agree (suc n) P U h =
        let earlier : Agree n U (quotient R N P Q) = quotient_agree n P U (agree_weaken (omega arith) h) in
        agree_suc earlier
        (h n (omega arith)
        ∙ rw (⊞-at R, ⊗_comm (series R) C U, ⊠-at R U C n, sum-suc R n, sub_self, no_constant, ⊗-𝟘 R, ⊕-𝟘 R, quotient-next R N P Q n)
        (ap (R.◌⊕◌ (P n))
        (sum_cong R n _ _ (λ i b. rw (earlier i b, opposite (n - i) (omega arith)) (⊗_comm R _ _)))))

    pub inverse-quotient : {n : ℕ} (P : Series A) {U : Series A} → Inverse R n C U → Agree n (P ⊠ U) (quotient R N P Q)
    inverse-quotient {n} P {U} inverse =
        quotient_agree n P (P ⊠ U) (rw (multiplied (series R) P C U) at (agree_⊠ R (agree_refl P) inverse.agrees))
