-- `parts::pth_powers` meets its contract: after i turns the first i places are written. Assumes nothing.
use Prim.Native.Nat.{◌-◌, ◌%◌}
use Rattle.buffer.specs.Filling.{Filling}
use Rattle.definition.specs.Lists.{coefficient}
use Rattle.buffer.specs.Segments.{segment}
use Rattle.parts.proofs.pth_powers.Given as goal

abbrev pub invariant-loop-i : goal.invariant-loop-i
invariant-loop-i l = Filling (λ x. coefficient (segment l.initial.w l.a l.k) x % l.p) l.t l.k l.initial.w l.w l.i

abbrev pub decreases-loop-i : goal.decreases-loop-i
decreases-loop-i l = l.k - l.i
