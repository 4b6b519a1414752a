-- `bivariate::squared_row` meets its contract. Assumes nothing.
use Prim.Native.Nat.{◌-◌}
use Rattle.buffer.specs.Filling.{Filling}
use Rattle.definition.specs.KinoshitaLi.{squared}
use Rattle.product.specs.Planes.{held}
use Rattle.bivariate.proofs.squared_row.Given as goal

abbrev pub invariant-loop-i : goal.invariant-loop-i
invariant-loop-i l = Filling (squared (held l.h l.initial.w l.a) l.j) l.t l.r l.initial.w l.w l.i

abbrev pub decreases-loop-i : goal.decreases-loop-i
decreases-loop-i l = l.r - l.i
