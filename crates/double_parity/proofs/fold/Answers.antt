-- `double_parity::fold` meets its contract: the first j rows are written. Assumes nothing.
use borrow.Author.Rules.{rules}
use native.Mathlib.Omega.{arith}
use Prim.Native.Nat.{ℕ, ◌+◌, ◌*◌, ◌<◌, ◌≤◌}
use lib.ListN.{length}
use mathlib.Core.Path.{◌≡◌, refl}
use Rattle.planes.specs.Rows.{plane-first}
use Rattle.double_parity.specs.Packed.{rows_fit, rows_next}
use Rattle.double_parity.specs.Halves.{upper}
use Rattle.double_parity.proofs.fold.Goals as goal
use Rattle.double_parity.proofs.fold.Goals.{At-loop-j}

abbrev places : goal.At-loop-j → ℕ
places c = upper c.args.g.length

room : (c : At-loop-j) → c.loop-j.j < c.args.g.count
    → c.loop-j.j * places c + places c ≤ length c.args.s.now
room c below = rows_fit (places c) c.args.g.count c.loop-j.j c.requires.3 below

pub loop-j-init : goal.loop-j-init
loop-j-init c = (omega arith, refl, plane-first _ _ _ _)

pub overflow_mul-j : goal.overflow_mul-j
overflow_mul-j c =
    record { fits = omega (arith, room (goal.at.overflow_mul-j c).At-loop-j c.loop-j-test.true, c.well_formed) }

pub fold_row-requires : goal.fold_row-requires
fold_row-requires c =
    (c.requires.0, c.requires.1, omega (arith, c.requires.2), omega (arith, room (goal.at.fold_row-requires c).At-loop-j c.loop-j-test.true, c.loop-j.invariant.1))

pub loop-j-smaller : goal.loop-j-smaller
loop-j-smaller c = omega (arith, c.loop-j-test.true)

pub loop-j-preserved : goal.loop-j-preserved
loop-j-preserved c =
    (omega (arith, c.loop-j-test.true), search rules, rows_next _ _ _ _ c.loop-j.invariant.2 c.fold_row.ensures)

pub returns : goal.returns
returns c =
    let all : c.loop-j.j ≡ c.args.g.count = omega (arith, c.loop-j.invariant.0, c.loop-j-test.false) in
    rw all at c.loop-j.invariant.2
