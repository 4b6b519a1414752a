-- `blocks::double` meets its contract: the places below t are doubled. Assumes nothing.
use Prim.Native.Nat.{◌+◌, ◌-◌, ◌≤◌, ◌%◌, ◌^◌}
use lib.ListN.{length}
use Rattle.blocks.specs.Blocks.{Changed}
use mathlib.Core.Path.{◌≡◌}
use Rattle.blocks.proofs.double.Given as goal

abbrev pub invariant-loop-t : goal.invariant-loop-t
invariant-loop-t l = (l.t ≤ l.n) × (length l.l ≡ length l.initial.l) × Changed (λ v. (v + v) % 2 ^ 64) l.t l.initial.l l.l

abbrev pub decreases-loop-t : goal.decreases-loop-t
decreases-loop-t l = l.n - l.t
