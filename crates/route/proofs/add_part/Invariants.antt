-- `route::add_part` meets its contract: after k turns the first k places are written. Assumes nothing.
use Prim.Native.Nat.{◌-◌}
use Rattle.buffer.specs.Filling.{Filling}
use Rattle.buffer.specs.Segments.{segment}
use Rattle.definition.specs.Substitution.{cut_sum_at}
use Rattle.route.proofs.add_part.Given as goal

abbrev pub invariant-loop-k : goal.invariant-loop-k
invariant-loop-k l = Filling (cut_sum_at l.p (segment l.initial.w l.t l.n) (segment l.initial.w l.s l.n)) l.t l.n l.initial.w l.w l.k

abbrev pub decreases-loop-k : goal.decreases-loop-k
decreases-loop-k l = l.n - l.k
