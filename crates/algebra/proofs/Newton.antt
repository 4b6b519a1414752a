-- What rests on Newton's step: the reverse series that it reaches. Assumes nothing.
--
-- where there is a negation:
--   newton_cut            the step of `newton_step_lem` below m ≤ 2k + 1, where s and the result are known below m
--   reverse_exists        if g_0 is 𝟘 and g_1 has an inverse, then there is a reverse below every n
--   reverse_sym           g is a reverse of h if h is one of g
use Rattle.std.specs.Prelude.{ℕ, zero, suc, ◌+◌, ◌≤◌, ◌≡◌}
use Rattle.std.proofs.Common.{◌∙◌, arith}
use Rattle.algebra.specs.Agree.{Agree, agree_neg, agree_refl, agree_sym, agree_trans, agree_⊞, agree_⊠}
use Rattle.algebra.specs.Derivative.{derivative}
use Rattle.algebra.specs.Negation.{Negation}
use Rattle.algebra.specs.Semiring.{Semiring, ⊗_comm}
use Rattle.algebra.specs.Series.{Series, constant, constant-0, shift, shift-0, shift_suc}
use Rattle.algebra.specs.Substitution.{substitute, substitute_assoc_agree, substitute-indeterminate, substitute_into_indeterminate}
use Rattle.algebra.specs.Reversion.{Reverse, reverse_weaken, reverse_agree, reverse-linear, reverse-below-1, reverse-below-2, newton, newton_step_lem}

module _ {A : Type 0} (R : Semiring A) where
  open R use {𝟘, 𝟙, ◌⊗◌}

  module _ (N : Negation R) where
    pub newton_cut : {k m : ℕ} {g h s t : Series A} → Reverse R (suc k) g h → m ≤ k + suc k
        → Agree m s (substitute R g h) → t 0 ≡ 𝟘 → Agree m t (newton R N h s) → Reverse R m g t
    newton_cut {m} {g} {h} {s} {t} r l a e b =
        let step : Agree m (newton R N h s) (newton R N h (substitute R g h)) =
        agree_⊞ R (agree_refl h)
        (agree_neg R N (agree_⊠ R (agree_⊞ R a (agree_refl _)) (agree_refl (derivative R h)))) in
        reverse_agree R e (agree_refl g) (agree_trans b step) (reverse_weaken R l (newton_step_lem R N r))

    module _ (g : Series A) (c : A) (g_0 : g 0 ≡ 𝟘) (unit : c ⊗ g 1 ≡ 𝟙) where
      newton_iterate : (n : ℕ) → (h : Series A) × Reverse R (suc (suc n)) g h
      newton_iterate zero = (
        shift R (constant R c),
        reverse-below-2 R g_0 (shift-0 R (constant R c)) (rw (shift_suc, constant-0) unit),
      )
      newton_iterate (suc n) =
          let (h, r) = newton_iterate n in
          (newton R N h (substitute R g h), reverse_weaken R (omega arith) (newton_step_lem R N r))

      pub reverse_exists : (n : ℕ) → (h : Series A) × Reverse R n g h
      reverse_exists n = let (h, r) = newton_iterate n in (h, reverse_weaken R (omega arith) r)

    pub reverse_sym : (n : ℕ) {g h : Series A} → g 0 ≡ 𝟘 → Reverse R n g h → Reverse R n h g
    reverse_sym zero g_0 r = record { no_constant = g_0; reverses = λ i l. absurd (omega arith) }
    reverse_sym (suc zero) g_0 r = reverse-below-1 R r.no_constant g_0
    reverse_sym (suc (suc n)) {g} {h} g_0 r =
        let unit : g 1 ⊗ h 1 ≡ 𝟙 = ⊗_comm R (g 1) (h 1) ∙ reverse-linear R r in
        let (k, s) = reverse_exists h (g 1) r.no_constant unit (suc (suc n)) in
        let a : Agree (suc (suc n)) k g =
        rw (substitute-indeterminate R k s.no_constant, substitute_into_indeterminate R g) at
        (substitute_assoc_agree R g h k r.no_constant s.no_constant (agree_sym r.reverses)
        (agree_sym s.reverses)) in
        reverse_agree R g_0 (agree_refl h) (agree_sym a) s
