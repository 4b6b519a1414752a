-- `double_rows::put` meets its contract: the first j rows are written. Assumes nothing.
use borrow.Author.Rules.{rules}
use native.Mathlib.Omega.{arith}
use Prim.Native.Nat.{◌+◌, ◌*◌, ◌<◌, ◌≤◌}
use lib.ListN.{length}
use Rattle.planes.specs.Rows.{plane-first, plane-fits, plane-next}
use mathlib.Core.Path.{◌≡◌, refl}
use Rattle.double_rows.proofs.put.Goals as goal
use Rattle.double_rows.proofs.put.Goals.{At-loop-j}

room : (c : At-loop-j) → c.loop-j.j < c.args.count
    → c.args.t + c.loop-j.j * c.args.r + c.args.r ≤ length c.args.w.now
room c below = plane-fits c.args.t c.args.r c.args.count c.loop-j.j c.requires.1 below

pub loop-j-init : goal.loop-j-init
loop-j-init c = (omega arith, refl, plane-first _ _ _ _)

pub overflow_mul-j : goal.overflow_mul-j
overflow_mul-j c = record { fits = omega (arith, room (goal.at.overflow_mul-j c).At-loop-j c.loop-j-test.true) }

pub overflow_add-t : goal.overflow_add-t
overflow_add-t c = record { fits = omega (arith, room (goal.at.overflow_add-t c).At-loop-j c.loop-j-test.true) }

pub put_row-requires : goal.put_row-requires
put_row-requires c =
    (c.requires.0, c.loop-j-test.true, omega (arith, room (goal.at.put_row-requires c).At-loop-j c.loop-j-test.true, c.loop-j.invariant.1))

pub loop-j-preserved : goal.loop-j-preserved
loop-j-preserved c =
    (omega (arith, c.loop-j-test.true), search rules, plane-next _ _ _ _ _ c.loop-j.invariant.2 c.put_row.ensures)

pub returns : goal.returns
returns c =
    let all : c.loop-j.j ≡ c.args.count = omega (arith, c.loop-j.invariant.0, c.loop-j-test.false) in
    rw all at c.loop-j.invariant.2
