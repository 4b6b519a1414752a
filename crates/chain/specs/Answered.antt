-- What opening a chain and a cycle promise, of a refused and of an accepted call.
--
--   identity-written                x modulo x^n is what `put` writes of the list 0 1
--   open_refused open_accepted      opening
--   cycle-refused cycle-accepted    a cycle
-- Assumes nothing.
use Rattle.std.specs.Prelude.{ℕ, zero, suc, ◌+◌, List, [], ◌∷◌, ◌≢◌, ◌≡◌, refl, length}
use Rattle.std.proofs.Common.{arith, ◌∙◌}
use Rattle.std.proofs.Math.Path.{sym, ap}
use Rattle.std.proofs.lemmas.List.Edits.{sets}
use Rattle.algebra.specs.Lists.{length-tabulate, tabulate_cong}
use Rattle.buffer.specs.Written.{sets-whole}
use Rattle.definition.specs.Answer.{cleared}
use Rattle.definition.specs.Calls.{Cycle, Open}
use Rattle.definition.specs.Chain.{Chain, next_chain, opened_chain}
use Rattle.definition.specs.Lists.{coefficient, tabulate}
use Rattle.definition.specs.Refusal.{cycle_refusal, cycle_work, open_refusal}
use Rattle.definition.specs.Reversion.{identity, identity_at}
use Rattle.definition.specs.Substitution.{constant}
use Rattle.definition.specs.Weight.{weight}
use Rattle.refusal.specs.Answers.{answered-accepted, answered-refused, kept-accepted, kept-refused}
use Rattle.route.specs.Contract.{Finished, Route, route_finished}

coefficient-identity : (k : ℕ) → coefficient (0 ∷ 1 ∷ []) k ≡ identity_at k
unfolding coefficient identity_at constant
coefficient-identity zero = refl
coefficient-identity (suc zero) = refl
coefficient-identity (suc (suc k)) = refl

pub identity-written : (s : List ℕ) → sets s 0 (tabulate (length s) (coefficient (0 ∷ 1 ∷ []))) ≡ identity (length s)
unfolding identity
identity-written s =
    sets-whole s (tabulate (length s) (coefficient (0 ∷ 1 ∷ []))) (length-tabulate (length s) _)
    ∙ tabulate_cong (length s) (coefficient (0 ∷ 1 ∷ [])) identity_at (λ k b. coefficient-identity k)

opened-refused : (number p n : ℕ) → number ≢ 0 → opened_chain number p n ≡ record { modulus = 0; order = 0; done = 0 }
unfolding opened_chain
opened-refused zero p n refused = absurd (refused refl)
opened-refused (suc number) p n refused = refl

module _ {p n : ℕ} (s : List ℕ) {number : ℕ} (tested : number ≡ open_refusal p n (length s)) where
  pub open_refused : number ≢ 0 → Open p n s s number 0 (record { modulus = 0; order = 0; done = 0 })
  open_refused refused = record {
    refusal = tested;
    weighs = refl;
    records = sym (opened-refused number p n refused);
    running = sym (kept-refused number (identity n) s refused);
  }

  pub open_accepted : {s' : List ℕ} → number ≡ 0 → length s ≡ n → s' ≡ identity (length s)
      → Open p n s s' 0 0 (record { modulus = p; order = n; done = 0 })
  unfolding opened_chain
  open_accepted accepted size written = record {
    refusal = sym accepted ∙ tested;
    weighs = refl;
    records = refl;
    running = written ∙ ap identity size ∙ sym (kept-accepted (identity n) s refl);
  }

next-refused : (number : ℕ) (chain : Chain) → number ≢ 0 → next_chain number chain ≡ chain
unfolding next_chain
next-refused zero chain refused = absurd (refused refl)
next-refused (suc number) chain refused = refl

module _ {route b : ℕ} {chain : Chain} (c s work : List ℕ) {number : ℕ} (tested : number ≡ cycle_refusal route b chain c s (length work)) where
  pub cycle-refused : number ≢ 0 → Cycle route b chain c s s work work number 0 chain
  cycle-refused refused = record {
    refusal = tested;
    weighs = sym (answered-refused number _ refused);
    records = sym (next-refused number chain refused);
    running = sym (kept-refused number _ s refused);
    clears = sym (kept-refused number _ work refused);
  }

  pub cycle-accepted : {s' then work' : List ℕ} {places result weighed : ℕ} → number ≡ 0 → length s ≡ chain.order
      → Route chain.modulus chain.order s c (weight route b chain.modulus chain.order (length s)) work then result → weighed ≡ result
      → places ≡ cycle_work chain.order (length c) → Finished places then work' s s'
      → Cycle route b chain c s s' work work' 0 weighed (record { modulus = chain.modulus; order = chain.order; done = chain.done + 1 })
  unfolding next_chain
  cycle-accepted accepted size run read counts finish =
      let finished = route_finished run (omega (arith, counts)) size finish in
      record {
        refusal = sym accepted ∙ tested;
        weighs = read ∙ run.sum ∙ ap (weight route b chain.modulus chain.order) size ∙ sym (answered-accepted _ refl);
        records = refl;
        running = finished.0 ∙ sym (kept-accepted _ s refl);
        clears = finished.1 ∙ ap (λ k. cleared k work) counts ∙ sym (kept-accepted _ work refl);
      }
