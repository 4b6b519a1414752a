-- What an accepted and a refused call leave.
--
--   kept-accepted kept-refused           a buffer
--   answered-accepted answered-refused   a weight
--   length-accepted length-refused       an effective length
-- Assumes nothing.
use Rattle.std.specs.Prelude.{ℕ, zero, suc, List, ◌≢◌, ◌≡◌, refl}
use Rattle.std.proofs.Common.{sym, ◌∙◌}
use Rattle.definition.specs.Answer.{answered, kept}
use Rattle.definition.specs.Calls.{Length}
use Rattle.definition.specs.Lists.{effective_length}

pub kept-accepted : {number : ℕ} (new old : List ℕ) → number ≡ 0 → kept number new old ≡ new
unfolding kept
kept-accepted new old e = rw e

pub kept-refused : (number : ℕ) (new old : List ℕ) → number ≢ 0 → kept number new old ≡ old
unfolding kept
kept-refused zero new old e = absurd (e refl)
kept-refused (suc number) new old e = refl

pub answered-accepted : {number : ℕ} (v : ℕ) → number ≡ 0 → answered number v ≡ v
unfolding answered
answered-accepted v e = rw e

pub answered-refused : (number : ℕ) (v : ℕ) → number ≢ 0 → answered number v ≡ 0
unfolding answered
answered-refused zero v e = absurd (e refl)
answered-refused (suc number) v e = refl

pub length-accepted : {l : List ℕ} {length' : ℕ} → length' ≡ effective_length l → Length 0 l length'
length-accepted {l} e = record { measures = e ∙ sym (answered-accepted (effective_length l) refl) }

pub length-refused : {number : ℕ} (l : List ℕ) → number ≢ 0 → Length number l 0
length-refused {number} l refused = record { measures = sym (answered-refused number (effective_length l) refused) }
