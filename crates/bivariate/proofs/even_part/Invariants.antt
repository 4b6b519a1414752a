-- `bivariate::even_part` meets its contract: after j turns the first j rows are written. Assumes nothing.
use Prim.Native.Nat.{◌*◌, ◌-◌}
use Rattle.buffer.specs.Filling.{Filling}
use Rattle.definition.specs.KinoshitaLi.{even_part, plane_place}
use Rattle.product.specs.Planes.{held}
use Rattle.bivariate.proofs.even_part.Given as goal

abbrev pub invariant-loop-j : goal.invariant-loop-j
invariant-loop-j l = Filling (plane_place l.h (even_part (held l.r l.initial.w l.a))) l.t (l.a.count * l.h) l.initial.w l.w (l.j * l.h)

abbrev pub decreases-loop-j : goal.decreases-loop-j
decreases-loop-j l = l.a.count - l.j
