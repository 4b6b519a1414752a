-- `denominator::denominator` meets its contract: after j turns the first j rows are written. Assumes nothing.
use Prim.Native.Nat.{◌*◌, ◌-◌}
use Rattle.buffer.specs.Filling.{Filling}
use Rattle.definition.specs.KinoshitaLi.{denominator, plane_place}
use Rattle.denominator.proofs.denominator.Given as goal

abbrev pub invariant-loop-j : goal.invariant-loop-j
invariant-loop-j l = Filling (plane_place l.n (denominator l.p l.g)) 0 (l.count * l.n) l.initial.w l.w (l.j * l.n)

abbrev pub decreases-loop-j : goal.decreases-loop-j
decreases-loop-j l = l.count - l.j
