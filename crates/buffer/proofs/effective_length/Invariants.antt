-- `buffer::effective_length` meets its contract: the effective length is that of the places not yet read. Assumes nothing.
use Prim.Native.Nat.{◌≤◌}
use lib.ListN.{length}
use mathlib.Core.Path.{◌≡◌}
use Rattle.definition.specs.Lists.{effective_below, effective_length}
use Rattle.buffer.proofs.effective_length.Given as goal

abbrev pub invariant-loop-k : goal.invariant-loop-k
invariant-loop-k l = (l.k ≤ length l.l) × (effective_length l.l ≡ effective_below l.l l.k)

abbrev pub decreases-loop-k : goal.decreases-loop-k
decreases-loop-k l = l.k
