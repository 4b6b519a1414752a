-- `remainder::by_division` meets its contract: after k turns the first k places are written. Assumes nothing.
use Rattle.std.proofs.Common.{◌-◌}
use Rattle.buffer.specs.Filling.{Filling}
use Rattle.rows.specs.Sums.{remainder_at}
use Rattle.remainder.proofs.by_division.Given as goal

abbrev pub invariant-loop-k : goal.invariant-loop-k
invariant-loop-k l = Filling (remainder_at l.p l.sums l.high) 0 l.n l.initial.z l.z l.k

abbrev pub decreases-loop-k : goal.decreases-loop-k
decreases-loop-k l = l.n - l.k
