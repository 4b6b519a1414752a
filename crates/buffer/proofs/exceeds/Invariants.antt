-- `buffer::exceeds` meets its contract: the answer for the whole list is that for the places not yet read.
-- Assumes nothing.
use Prim.Native.Nat.{◌-◌, ◌≤◌}
use mathlib.Core.Path.{◌≡◌}
use lib.ListN.{length, drop}
use Rattle.definition.specs.Refusal as refusal
use Rattle.buffer.proofs.exceeds.Given as goal

abbrev pub invariant-loop-i : goal.invariant-loop-i
invariant-loop-i l = (l.i ≤ length l.l) × (refusal.exceeds l.p l.l ≡ refusal.exceeds l.p (drop l.i l.l))

abbrev pub decreases-loop-i : goal.decreases-loop-i
decreases-loop-i l = length l.l - l.i
