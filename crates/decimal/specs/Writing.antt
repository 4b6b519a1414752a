-- Lists printed one after the other into a text.
--
--   Written l at text text' next   text' is text with l written from place `at` on, and `next` is the place after it
--   Printed l at text text' next   `next` is the place after l, printed from place `at` on, and where text has room, l is written there
--   printed-append                 two lists printed one after the other are one
--   printed_written                where there is room
--   written-append                 two lists written one after the other are one
--   room                           where there is room for two lists, the first leaves room for the second
-- Assumes nothing.
use Rattle.std.specs.Prelude.{ℕ, ◌+◌, ◌≤◌, List, ◌++◌, ◌≡◌, length}
use Rattle.std.proofs.Common.{add_assoc, arith, sym, ◌∙◌, length-append}
use Rattle.std.proofs.lemmas.List.Edits.{sets}
use Rattle.std.proofs.Math.Seq.{length-sets}
use Rattle.buffer.specs.Written.{sets-append}

pub record Written (l : List ℕ) (at : ℕ) (text text' : List ℕ) (next : ℕ) : Type 0 where
  pub holds : text' ≡ sets text at l
  pub ends : next ≡ at + length l

pub record Printed (l : List ℕ) (at : ℕ) (text text' : List ℕ) (next : ℕ) : Type 0 where
  pub ends : next ≡ at + length l
  pub holds : next ≤ length text → text' ≡ sets text at l

pub printed-append : {at next next' : ℕ} (l m : List ℕ) {text text' text'' : List ℕ} → Printed l at text text' next → Printed m next text' text'' next'
    → Printed (l ++ m) at text text'' next'
printed-append {at} {next} l m {text} {text'} first then = record {
  ends = then.ends ∙ rw (first.ends, length-append, add_assoc);
  holds = λ room.
      let front : text' ≡ sets text at l = first.holds (omega (arith, then.ends)) in
      then.holds (rw (front, length-sets) room) ∙ rw (front, first.ends) (sym (sets-append _ at l m));
}

pub printed_written : {at next : ℕ} {l text text' : List ℕ} → Printed l at text text' next → next ≤ length text → Written l at text text' next
printed_written printed room = record { holds = printed.holds room; ends = printed.ends }

pub written-append : {at next next' : ℕ} (l m : List ℕ) {text text' text'' : List ℕ} → Written l at text text' next → Written m next text' text'' next'
    → Written (l ++ m) at text text'' next'
written-append {at} l m first then = record {
  holds = then.holds ∙ rw (first.holds, first.ends) (sym (sets-append _ at l m));
  ends = then.ends ∙ rw (first.ends, length-append, add_assoc);
}

pub room : {at next : ℕ} (l m : List ℕ) {text text' : List ℕ} → Written l at text text' next → at + length (l ++ m) ≤ length text
    → next + length m ≤ length text'
room {at} l m {text} first fits = rw (first.holds, first.ends, length-sets) (omega (arith, length-append l m))
