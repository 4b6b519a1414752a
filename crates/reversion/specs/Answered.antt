-- What reverse promises, of a refused and of an accepted call.
--
--   reverse-refused    a call that is refused
--   reverse-reversible an accepted call has what the iteration requires
--   reverse-accepted   an accepted call
-- Assumes nothing.
use Rattle.std.specs.Prelude.{ℕ, ◌<◌, eqb, ltb, false, not, ◌&&◌, length, List, ◌≢◌, ◌≡◌, refl}
use Rattle.std.proofs.lemmas.Bool.{eqb-false, not-false}
use Rattle.std.proofs.Common.{eqb-true, lt-ltb, arith, sym, ◌∙◌}
use Rattle.algebra.proofs.Inverse.{reversion-symmetric}
use Rattle.algebra.specs.Inverse.{reversion-none, reversion_unique}
use Rattle.algebra.specs.Prime.{prime-positive}
use Rattle.definition.specs.Answer.{cleared}
use Rattle.definition.specs.Calls.{Reverse}
use Rattle.definition.specs.Lists.{coefficient}
use Rattle.definition.specs.Refusal.{compose_work, irreversible, reverse_refusal}
use Rattle.definition.specs.Reversion.{Reversion}
use Rattle.refusal.specs.Answers.{kept-accepted, kept-refused}
use Rattle.refusal.specs.Bounds.{ReverseBounds, field-lent, reverse-bounds, reverse_nine}
use Rattle.refusal_tests.specs.Tests.{either_false}
use Rattle.newton_step.specs.Step.{Reversed}
use Rattle.reversion.specs.Iteration.{Reversible}
use Rattle.buffer.specs.Within.{cleared-within}

reversible-constant : (n : ℕ) (g : List ℕ) → irreversible n g ≡ false → coefficient g 0 ≡ 0
unfolding irreversible
reversible-constant n g e = eqb-true (coefficient g 0) 0 (not-false _ (either_false _ _ e).0)

reversible-linear : (n : ℕ) (g : List ℕ) → irreversible n g ≡ false → 1 < n → coefficient g 1 ≢ 0
unfolding irreversible
reversible-linear n g e several =
    let neither = either_false (not (eqb (coefficient g 0) 0)) (ltb 1 n && eqb (coefficient g 1) 0) e in
    eqb-false (coefficient g 1) 0 (rw (lt-ltb 1 n several) at neither.1)

module _ (p n : ℕ) (g out work : List ℕ) where
  pub reverse-refused : {number : ℕ} → number ≡ reverse_refusal p n g (length out) (length work) → number ≢ 0
      → Reverse p n g out out work work number 0
  reverse-refused {number} e refused = record {
    refusal = e;
    weighs = refl;
    reverses = λ z. absurd (refused z);
    only = λ z. absurd (refused z);
    symmetric = λ z. absurd (refused z);
    none = λ nine h r.
        let (field, small, none) = reverse_nine p n g (length out) (length work) (sym e ∙ nine) in
        reversion-none (prime-positive field.prime) field.prime.above-one n g h field.positive small none r;
    refused = λ _. refl;
    clears = sym (kept-refused number _ work refused);
  }

  module _ (accepted : reverse_refusal p n g (length out) (length work) ≡ 0) where
    bounds : ReverseBounds p n g (length out) (length work)
    bounds = reverse-bounds p n g (length out) (length work) accepted

    pub reverse-reversible : Reversible p g out work
    reverse-reversible = record {
      prime = bounds.field.prime;
      below = bounds.below;
      constant-free = reversible-constant n g bounds.reversible;
      linear = λ several. reversible-linear n g bounds.reversible (rw bounds.output at several);
      lent = rw bounds.output (field-lent bounds.field bounds.inner bounds.enough);
    }

    pub reverse-accepted : {out' then work' : List ℕ} {places : ℕ} → Reversed p (length out) g out' work then
        → places ≡ compose_work n (length g) → work' ≡ cleared places then → Reverse p n g out out' work work' 0 0
    reverse-accepted {out'} reversed counted clear =
        let reversion : Reversion p n g out' = rw bounds.output at reversed.reverses in
        let positive = prime-positive bounds.field.prime in
        let above = bounds.field.prime.above-one in
        record {
          refusal = sym accepted;
          weighs = refl;
          reverses = λ _. reversion;
          only = λ _ h r. reversion_unique positive above g h out' r reversion;
          symmetric = λ _. reversion-symmetric positive above n g out' reversion;
          none = λ nine h r. omega arith;
          refused = λ refused. absurd (refused refl);
          clears =
              (rw counted at clear) ∙ cleared-within (rw bounds.output at reversed.within)
              ∙ sym (kept-accepted {number = 0} _ work refl);
        }
