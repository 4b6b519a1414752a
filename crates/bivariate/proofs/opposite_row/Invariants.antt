-- `bivariate::opposite_row` meets its contract. Assumes nothing.
use Prim.Native.Nat.{◌-◌}
use Rattle.buffer.specs.Filling.{Filling}
use Rattle.definition.specs.KinoshitaLi.{opposite}
use Rattle.product.specs.Planes.{held}
use Rattle.bivariate.proofs.opposite_row.Given as goal

abbrev pub invariant-loop-i : goal.invariant-loop-i
invariant-loop-i l = Filling (opposite l.p (held l.r l.initial.w l.a) l.j) l.t l.r l.initial.w l.w l.i

abbrev pub decreases-loop-i : goal.decreases-loop-i
decreases-loop-i l = l.r - l.i
