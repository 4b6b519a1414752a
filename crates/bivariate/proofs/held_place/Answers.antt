-- `bivariate::held_place` meets its contract: a place of the list where the rows have one, else 0. Assumes nothing.
use native.Mathlib.Omega.{arith}
use Prim.Native.Nat.{◌+◌, ◌*◌, ◌<◌}
use lib.ListN.{length}
use mathlib.Core.Path.{sym}
use Rattle.algebra.specs.Rows.{plane_at-right}
use Rattle.product.specs.Planes.{held_beyond}
use Rattle.bivariate.specs.Steps.{place_inside, held-inside}
use Rattle.bivariate.proofs.held_place.Goals as goal
use Rattle.bivariate.proofs.held_place.Goals.{Then-i-r}

inside : (c : Then-i-r) → c.args.a.at + c.args.j * c.args.r + c.args.i < length c.args.w.now
inside c = place_inside c.args.r c.args.w.now c.args.a c.if-j-a.true c.if-i-r.true c.requires

pub overflow_mul-result : goal.overflow_mul-result
overflow_mul-result c = omega (arith, inside c)

pub overflow_add-result : goal.overflow_add-result
overflow_add-result c = omega (arith, inside (goal.at.overflow_add-result c).Then-i-r)

pub overflow_add-result-then-i-r : goal.overflow_add-result-then-i-r
overflow_add-result-then-i-r c = omega (arith, inside (goal.at.overflow_add-result-then-i-r c).Then-i-r)

pub offset_bounds-w-a : goal.offset_bounds-w-a
offset_bounds-w-a c = omega (arith, inside (goal.at.offset_bounds-w-a c).Then-i-r)

pub bounds-w-a : goal.bounds-w-a
bounds-w-a c = inside (goal.at.bounds-w-a c).Then-i-r

pub returns-then-i-r : goal.returns-then-i-r
returns-then-i-r c =
    held-inside c.args.r c.args.w.now c.args.a c.if-j-a.true c.if-i-r.true

pub returns-else-i-r : goal.returns-else-i-r
returns-else-i-r c = sym (plane_at-right _ _ _ _ c.if-i-r.false)

pub returns-else-j-a : goal.returns-else-j-a
returns-else-j-a c =
    let args = c.args in
    sym (held_beyond args.r args.w.now args.a args.j c.if-j-a.false args.i)
