-- `parts::part` meets its contract: after i turns the first i places of the part are written. Assumes nothing.
use Prim.Native.Nat.{◌-◌}
use Rattle.buffer.specs.Filling.{Filling}
use Rattle.definition.specs.Bernstein.{part_at}
use Rattle.buffer.specs.Segments.{segment}
use Rattle.parts.proofs.part.Given as goal

abbrev pub invariant-loop-i : goal.invariant-loop-i
invariant-loop-i l = Filling (part_at l.p l.j (segment l.initial.w l.a l.m)) l.t l.count l.initial.w l.w l.i

abbrev pub decreases-loop-i : goal.decreases-loop-i
decreases-loop-i l = l.count - l.i
