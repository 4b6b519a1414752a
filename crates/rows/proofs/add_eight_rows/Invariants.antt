-- `rows::add_eight_rows` meets its contract: the rows are added at the places below t. Assumes nothing.
use Rattle.std.proofs.Common.{◌≡◌, ◌-◌, ◌≤◌, length}
use Rattle.rows.specs.Rows.{Passed}
use Rattle.rows.proofs.add_eight_rows.Given as goal

abbrev pub invariant-loop-t : goal.invariant-loop-t
invariant-loop-t l =
    (l.from ≤ l.t) × (l.t ≤ l.to) × (length l.sums ≡ length l.initial.sums) × (length l.high ≡ length l.initial.high) × Passed 8 l.from l.t l.x l.i l.y l.e l.initial.sums l.sums l.initial.high l.high

abbrev pub decreases-loop-t : goal.decreases-loop-t
decreases-loop-t l = l.to - l.t
