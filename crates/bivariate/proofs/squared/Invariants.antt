-- `bivariate::squared` meets its contract: after j turns the first j rows are written. Assumes nothing.
use Prim.Native.Nat.{◌*◌, ◌-◌}
use Rattle.buffer.specs.Filling.{Filling}
use Rattle.definition.specs.KinoshitaLi.{plane_place, squared}
use Rattle.product.specs.Planes.{held}
use Rattle.bivariate.proofs.squared.Given as goal

abbrev pub invariant-loop-j : goal.invariant-loop-j
invariant-loop-j l = Filling (plane_place l.r (squared (held l.h l.initial.w l.a))) l.t (l.a.count * l.r) l.initial.w l.w (l.j * l.r)

abbrev pub decreases-loop-j : goal.decreases-loop-j
decreases-loop-j l = l.a.count - l.j
