-- `denominator::denominator_row` meets its contract. Assumes nothing.
use Rattle.buffer.specs.Filling.{filling_first, filling_last, filling_next}
use Rattle.denominator.proofs.denominator_row.Goals as goal

pub loop-i-init : goal.loop-i-init
loop-i-init c = filling_first _ _ _ _

pub loop-i-preserved : goal.loop-i-preserved
loop-i-preserved c =
    filling_next c.loop-i.invariant c.loop-i-test.true c.denominator_place.ensures

pub returns : goal.returns
returns c = filling_last c.loop-i.invariant c.loop-i-test.false
