-- `bivariate::opposite` meets its contract: after j turns the first j rows are written. Assumes nothing.
use borrow.Author.Rules.{rules}
use native.Mathlib.Omega.{arith}
use Prim.Native.Nat.{◌+◌, ◌*◌}
use native.Mathlib.Nat.{mul-le-mul_right, zero-mul}
use mathlib.Core.Path.{◌∙◌}
use Rattle.buffer.specs.Filling.{filling_first, filling_last}
use Rattle.definition.specs.KinoshitaLi.{plane}
use Rattle.bivariate.specs.Steps.{Source, filling_held, filling_row, source_row}
use Rattle.bivariate.proofs.opposite.Goals as goal
use Rattle.bivariate.proofs.opposite.Goals.{In-loop-j}

-- a turn: the row that is written lies apart from what is read

apart : (c : In-loop-j) → Source c.args.r c.args.a (c.args.t + c.loop-j.j * c.args.r) c.args.r c.loop-j.w
apart c = source_row _ _ c.loop-j.invariant c.loop-j-test.true c.args.r c.args.a c.requires.1

pub loop-j-init : goal.loop-j-init
loop-j-init c = rw zero-mul (filling_first _ _ _ _)

pub overflow_mul-j : goal.overflow_mul-j
overflow_mul-j c = omega (arith, (apart (goal.at.overflow_mul-j c).In-loop-j).target)

pub overflow_add-t : goal.overflow_add-t
overflow_add-t c = omega (arith, (apart (goal.at.overflow_add-t c).In-loop-j).target)

pub opposite_row-requires : goal.opposite_row-requires
opposite_row-requires c = (search rules, apart (goal.at.opposite_row-requires c).In-loop-j)

pub loop-j-preserved : goal.loop-j-preserved
loop-j-preserved c =
    let filling = c.loop-j.invariant in
    filling_row _ _ filling c.loop-j-test.true
    (c.opposite_row.ensures ∙ rw (filling_held filling c.args.r c.args.a c.requires.1))

pub returns : goal.returns
unfolding plane
returns c = filling_last c.loop-j.invariant (mul-le-mul_right _ c.loop-j-test.false)
