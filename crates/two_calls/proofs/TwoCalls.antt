-- When two answers are equal (demand 3): the claim holds of any two calls. It stands here, and not in specs/, so that a wrong claim is refused
-- by a proof. Assumes nothing.
--
--   two_calls                  the claim `Equality` holds of any two calls
use Rattle.std.specs.Prelude.{ℕ, ◌<◌, false, List, ◌≡◌, length}
use Rattle.std.proofs.Common.{sym, ◌∙◌}
use Rattle.definition.specs.Answer.{kept}
use Rattle.definition.specs.Lists.{coefficient}
use Rattle.definition.specs.Prime.{Prime}
use Rattle.definition.specs.Refusal.{exceeds}
use Rattle.definition.specs.Substitution.{composed}
use Rattle.refusal.specs.Bounds.{compose-bounds, cycle-bounds}
use Rattle.two_calls.specs.Leading.{leading_decides}
use Rattle.two_calls.specs.TwoCalls.{Answers, Call, Equality, compose, cycle}

-- what number 0 tells of a call
record Accepted (p n : ℕ) (f g out' : List ℕ) : Type 0 where
  prime : Prime p
  positive : 0 < n
  answer : out' ≡ composed p n f g
  small : exceeds p g ≡ false

accepted : {number p n : ℕ} {f g out' : List ℕ} → Call number p n f g out' → number ≡ 0 → Accepted p n f g out'
unfolding kept
accepted (compose {route} {b} {p} {n} {f = f} {g = g} {out = out} {work = work} q) e =
    let bounds = compose-bounds route b p n f g (length out) (length work) (sym q.refusal ∙ e) in
    record { prime = bounds.field.prime; positive = bounds.field.positive; answer = rw e at q.output; small = bounds.below-inner }
accepted (cycle {route} {b} {chain = chain} {c = c} {s = s} {work = work} q) e =
    let bounds = cycle-bounds route b chain c s (length work) (sym q.refusal ∙ e) in
    record { prime = bounds.field.prime; positive = bounds.field.positive; answer = rw e at q.running; small = bounds.below-inner }

equal_answers : {p n : ℕ} {f₁ g₁ out₁ f₂ g₂ out₂ : List ℕ} → Accepted p n f₁ g₁ out₁ → Accepted p n f₂ g₂ out₂
    → ((k : ℕ) → k < n → coefficient g₁ k ≡ coefficient g₂ k) → Answers p n f₁ g₁ out₁ f₂ g₂ out₂
equal_answers {f₁ = f₁} {g₁ = g₁} {f₂ = f₂} {g₂ = g₂} a b agree = record {
  first = a.answer;
  second = b.answer;
  equal = rw (a.answer, b.answer) (leading_decides a.prime a.positive f₁ g₁ f₂ g₂ a.small agree);
}

pub two_calls : {number₁ p₁ n₁ number₂ p₂ n₂ : ℕ} {f₁ g₁ out₁ f₂ g₂ out₂ : List ℕ} → Call number₁ p₁ n₁ f₁ g₁ out₁
    → Call number₂ p₂ n₂ f₂ g₂ out₂ → Equality number₁ p₁ n₁ f₁ g₁ out₁ number₂ p₂ n₂ f₂ g₂ out₂
unfolding Equality
two_calls c d zero₁ zero₂ same-p same-n agree =
    equal_answers (accepted c zero₁) (rw (← same-p, ← same-n) at (accepted d zero₂)) agree
