-- `bivariate::even_row` meets its contract. Assumes nothing.
use Prim.Native.Nat.{◌-◌}
use Rattle.buffer.specs.Filling.{Filling}
use Rattle.definition.specs.KinoshitaLi.{even_part}
use Rattle.product.specs.Planes.{held}
use Rattle.bivariate.proofs.even_row.Given as goal

abbrev pub invariant-loop-i : goal.invariant-loop-i
invariant-loop-i l = Filling (even_part (held l.r l.initial.w l.a) l.j) l.t l.h l.initial.w l.w l.i

abbrev pub decreases-loop-i : goal.decreases-loop-i
decreases-loop-i l = l.h - l.i
