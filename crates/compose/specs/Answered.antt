-- What compose promises, of a refused and of an accepted call.
--
--   bounds-lent         what number 0 tells suffices for a route
--   compose-refused     a call that changed nothing
--   compose-accepted    a route, and then `finish`
-- Assumes nothing.
use Rattle.std.specs.Prelude.{ℕ, List, ◌≢◌, ◌≡◌, refl, length}
use Rattle.std.proofs.Common.{le_of_eq, sym, ap, ◌∙◌}
use Rattle.definition.specs.Answer.{cleared}
use Rattle.definition.specs.Calls.{Compose}
use Rattle.definition.specs.Refusal.{compose_refusal, compose_work}
use Rattle.definition.specs.Weight.{weight}
use Rattle.refusal.specs.Answers.{answered-accepted, answered-refused, kept-accepted, kept-refused}
use Rattle.refusal.specs.Bounds.{ComposeBounds, field-lent}
use Rattle.route.specs.Contract.{Finished, Lent, Route, route_finished}

pub bounds-lent : {route b p n places work : ℕ} {f g : List ℕ} → ComposeBounds route b p n f g places work → Lent p n (length f) work
bounds-lent bounds = field-lent bounds.field bounds.outer bounds.enough

module _ {route b p n : ℕ} (f g out work : List ℕ) {number : ℕ} (tested : number ≡ compose_refusal route b p n f g (length out) (length work)) where
  pub compose-refused : number ≢ 0 → Compose route b p n f g out out work work number 0
  compose-refused refused = record {
    refusal = tested;
    weighs = sym (answered-refused number _ refused);
    output = sym (kept-refused number _ out refused);
    clears = sym (kept-refused number _ work refused);
  }

  pub compose-accepted : {out' then work' : List ℕ} {places result weighed : ℕ} → number ≡ 0 → length out ≡ n
      → Route p n f g (weight route b p n (length f)) work then result → weighed ≡ result
      → places ≡ compose_work n (length f) → Finished places then work' out out' → Compose route b p n f g out out' work work' 0 weighed
  compose-accepted accepted size run read counted finish =
      let finished = route_finished run (le_of_eq (sym counted)) size finish in
      record {
        refusal = sym accepted ∙ tested;
        weighs = read ∙ run.sum ∙ sym (answered-accepted _ refl);
        output = finished.0 ∙ sym (kept-accepted _ out refl);
        clears = finished.1 ∙ ap (λ k. cleared k work) counted ∙ sym (kept-accepted _ work refl);
      }
