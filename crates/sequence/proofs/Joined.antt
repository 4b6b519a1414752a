-- The running series of two chains, composed. It stands in a file of its own, so that an edit that makes it false is refused by its proof,
-- and not by those of proofs/Cut that rest on it. Assumes nothing.
--
--   joined          it is that of the cycles of both
use Rattle.std.specs.Prelude.{ℕ, List, ◌++◌, ◌≡◌}
use Rattle.algebra.specs.Prime.{prime-positive}
use Rattle.definition.specs.Chain.{Chain}
use Rattle.definition.specs.Running.{running}
use Rattle.definition.specs.Substitution.{composed}
use Rattle.sequence.specs.Running.{running-append}
use Rattle.sequence.specs.Sequence.{Sequence}
use Rattle.sequence.proofs.Sequence.{sequence_constant-free, sequence_field, sequence_running}

pub joined : {p n : ℕ} {chain₁ chain₂ : Chain} {s₁ s₂ : List ℕ} {cs ds : List (List ℕ)} → Sequence p n chain₁ s₁ cs
    → Sequence p n chain₂ s₂ ds → composed p n s₁ s₂ ≡ running p n (cs ++ ds)
joined {n = n} {cs = cs} {ds = ds} first rest =
    rw ((sequence_running first).series, (sequence_running rest).series)
    (running-append (prime-positive (sequence_field rest).prime) n cs ds (sequence_constant-free rest))
