-- `denominator::denominator` meets its contract: after j turns the first j rows are written. Assumes nothing.
use borrow.Author.Rules.{rules}
use native.Mathlib.Omega.{arith}
use Prim.Native.Nat.{◌+◌, ◌*◌, ◌≤◌}
use native.Mathlib.Nat.{mul-le-mul_right, zero-add, zero-mul}
use lib.ListN.{length}
use Rattle.buffer.specs.Filling.{filling_first, filling_last}
use Rattle.definition.specs.KinoshitaLi.{plane}
use Rattle.bivariate.specs.Steps.{filling_row, row_inside}
use Rattle.denominator.proofs.denominator.Goals as goal
use Rattle.denominator.proofs.denominator.Goals.{In-loop-j}

-- a turn: the row that is written lies inside the list

inside : (c : In-loop-j) → c.loop-j.j * c.args.n + c.args.n ≤ length c.loop-j.w
inside c = omega (arith, row_inside c.args.n c.loop-j-test.true, c.loop-j.invariant.size, c.requires.1)

pub loop-j-init : goal.loop-j-init
loop-j-init c = rw zero-mul (filling_first _ _ _ _)

pub overflow_mul-j : goal.overflow_mul-j
overflow_mul-j c = omega (arith, inside (goal.at.overflow_mul-j c).In-loop-j)

pub denominator_row-requires : goal.denominator_row-requires
denominator_row-requires c = (search rules, inside (goal.at.denominator_row-requires c).In-loop-j)

pub loop-j-preserved : goal.loop-j-preserved
loop-j-preserved c =
    filling_row _ _ c.loop-j.invariant c.loop-j-test.true (rw zero-add c.denominator_row.ensures)

pub returns : goal.returns
unfolding plane
returns c = filling_last c.loop-j.invariant (mul-le-mul_right _ c.loop-j-test.false)
