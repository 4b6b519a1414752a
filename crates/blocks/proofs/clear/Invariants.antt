-- `blocks::clear` meets its contract: the places below t are clear. Assumes nothing.
use Prim.Native.Nat.{◌-◌, ◌≤◌}
use lib.ListN.{length}
use Rattle.blocks.specs.Blocks.{Changed}
use mathlib.Core.Path.{◌≡◌}
use Rattle.blocks.proofs.clear.Given as goal

abbrev pub invariant-loop-t : goal.invariant-loop-t
invariant-loop-t l =
    (l.t ≤ l.n) × (length l.sums ≡ length l.initial.sums) × (length l.high ≡ length l.initial.high) × Changed (λ v. 0) l.t l.initial.sums l.sums × Changed (λ v. 0) l.t l.initial.high l.high

abbrev pub decreases-loop-t : goal.decreases-loop-t
decreases-loop-t l = l.n - l.t
