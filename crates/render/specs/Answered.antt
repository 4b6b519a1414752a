-- What rendering promises, of a refused and of an accepted call.
--
--   rendered-accepted rendered-refused   which text is rendered
--   render_refused     a call that wrote nothing
--   render-listed      the same, where the order or the list is refused
--   render_fits        what number 0 tells
--   render_accepted    a call that wrote the text
--   render-fitting     a text that has room is not refused
--   longest-fits       the longest text of so many coefficients has room, and so has this one
-- Assumes nothing.
use Rattle.std.specs.Prelude.{ℕ, zero, suc, ◌+◌, ◌*◌, ◌^◌, ◌<◌, ◌≤◌, ltb, get_or, List, [], ◌∷◌, ◌≢◌, ◌≡◌, length}
use Rattle.std.proofs.Math.Nat.{zero-add}
use Rattle.std.proofs.Math.Path.{refl, sym}
use Rattle.std.proofs.Common.{arith, le-ltb, ◌∙◌}
use Rattle.buffer.specs.Written.{sets-front}
use Rattle.definition.specs.Answer.{overwritten}
use Rattle.definition.specs.Calls.{Render}
use Rattle.definition.specs.Refusal.{first, render_refusal, test}
use Rattle.definition.specs.Text.{accepted, refused, rendered}
use Rattle.refusal.specs.Answers.{answered-accepted, answered-refused, kept-accepted, kept-refused}
use Rattle.refusal.specs.Bounds.{list-bounds, render_bounds}
use Rattle.refusal_tests.specs.Tests.{Passed, first-passed, first-same, list_tests, places-equal}
use Rattle.decimal.specs.Digits.{decimal-length, long_length}
use Rattle.decimal.specs.Writing.{Written}
use Rattle.text.specs.Lengths.{length-accepted, refused-length, spaced-length}

pub rendered-accepted : {number : ℕ} (n weight : ℕ) (l : List ℕ) → number ≡ 0 → rendered number n weight l ≡ accepted n weight l
unfolding rendered
rendered-accepted n weight l e = rw e

pub rendered-refused : (number n weight : ℕ) (l : List ℕ) → number ≢ 0 → rendered number n weight l ≡ refused number
unfolding rendered
rendered-refused zero n weight l e = absurd (e refl)
rendered-refused (suc number) n weight l e = refl

module _ (number n weight : ℕ) (l text : List ℕ) {places number' : ℕ}
    (measured : Passed (list_tests number n (length l)) → places ≡ length (rendered number n weight l))
    (tested : number' ≡ render_refusal number n (length l) places (length text)) where
  -- the number is that of the text itself, which is measured where the earlier tests passed
  numbered : number' ≡ render_refusal number n (length l) (length (rendered number n weight l)) (length text)
  unfolding render_refusal
  numbered = tested ∙ first-same (list_tests number n (length l)) _ _ (λ h. rw (measured h))

  pub render_refused : number' ≢ 0 → Render number n weight l text text number' 0
  render_refused refused = record {
    refusal = numbered;
    counts = sym (answered-refused number' _ refused);
    writes = sym (kept-refused number' _ text refused);
  }

  pub render_fits : number' ≡ 0 → Passed (list_tests number n (length l)) × (length (rendered number n weight l) ≤ length text)
  render_fits accepted = render_bounds number n (length l) _ (length text) (sym numbered ∙ accepted)

  pub render_accepted : {text' : List ℕ} {count : ℕ} → number' ≡ 0 → Written (rendered number n weight l) 0 text text' count
      → Render number n weight l text text' 0 count
  unfolding overwritten
  render_accepted accepted written = record {
    refusal = sym accepted ∙ numbered;
    counts = written.ends ∙ zero-add _ ∙ sym (answered-accepted _ refl);
    writes = written.holds ∙ sym (sets-front text _ (rendered number n weight l) refl (render_fits accepted).1) ∙ sym (kept-accepted _ text refl);
  }

pub render-listed : (number n weight : ℕ) (l text : List ℕ) {number' : ℕ} → number' ≡ first (list_tests number n (length l)) → number' ≢ 0
    → Render number n weight l text text number' 0
unfolding render_refusal
render-listed number n weight l text listed refused =
    let tests = list_tests number n (length l) in
    let tested = first-same tests [] (test 7 (ltb (length text) 0) ∷ []) (λ passes. absurd (refused (listed ∙ first-passed tests passes))) in
    render_refused number n weight l text {places = 0} (λ passes. absurd (refused (listed ∙ first-passed tests passes))) (listed ∙ tested) refused

pub render-fitting : (number n places bytes text : ℕ) → Passed (list_tests number n places) → bytes ≤ text → 0 ≡ render_refusal number n places bytes text
unfolding Passed render_refusal test
render-fitting number n places bytes text passes fits = sym (first-passed _ (passes.0, (passes.1.0, (le-ltb text bytes fits, tt))))

-- the most bytes of the text of an accepted answer
longest-accepted : (n weight : ℕ) (l : List ℕ) → Passed (list_tests 0 n (length l)) → weight < 2 ^ 64 → ((i : ℕ) → i < length l → get_or l i 0 < 2 ^ 32)
    → length (rendered 0 n weight l) ≤ 29 + 11 * length l
unfolding Passed test
longest-accepted n weight l passes word below =
    let size = places-equal n (length l) passes.1.0 in
    let few = list-bounds n (length l) refl passes in
    let order = decimal-length 4 n (omega (arith, size, few.1)) (omega arith) in
    rw (rendered-accepted {number = 0} n weight l refl, length-accepted n weight l)
    (omega (arith, order, few.0, long_length weight word, spaced-length l below))

pub longest-fits : (number n weight : ℕ) (l : List ℕ) → Passed (list_tests number n (length l)) → number < 2 ^ 32 → weight < 2 ^ 64
    → ((i : ℕ) → i < length l → get_or l i 0 < 2 ^ 32) → {longest room : ℕ} → (number ≡ 0 → longest ≡ 29 + 11 * length l) → (number ≢ 0 → longest ≡ 14)
    → longest ≤ room → length (rendered number n weight l) ≤ room
longest-fits zero n weight l passes small word below accepted refused within =
    omega (arith, accepted refl, longest-accepted n weight l passes word below)
longest-fits (suc number) n weight l passes small word below accepted refused within =
    omega (arith, refused (λ none. omega arith), refused-length (suc number) n weight l (omega arith) small)
