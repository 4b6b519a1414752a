-- `division::complement` meets its contract. Assumes nothing.
use Prim.Native.Nat.{◌-◌}
use Rattle.buffer.specs.Filling.{Filling}
use Rattle.definition.specs.Lists.{coefficient}
use Rattle.buffer.specs.Segments.{segment}
use Rattle.division.specs.Quotient.{complement}
use Rattle.division.proofs.complement.Given as goal

abbrev pub invariant-loop-k : goal.invariant-loop-k
invariant-loop-k l = Filling (complement l.p (coefficient (segment l.initial.w 0 l.count))) l.t l.m l.initial.w l.w l.k

abbrev pub decreases-loop-k : goal.decreases-loop-k
decreases-loop-k l = l.m - l.k
