-- `double_parity::weave_column` meets its contract: after j turns the first j places are written. Assumes nothing.
use Rattle.buffer.specs.Filling.{filling_first, filling_last, filling_next}
use Rattle.double_parity.proofs.weave_column.Goals as goal

pub loop-j-init : goal.loop-j-init
loop-j-init c = filling_first _ _ _ _

pub woven_place-requires : goal.woven_place-requires
woven_place-requires c =
    (c.requires.0, c.loop-j-test.true, c.requires.1)

pub loop-j-preserved : goal.loop-j-preserved
loop-j-preserved c = filling_next c.loop-j.invariant c.loop-j-test.true c.woven_place.ensures

pub returns : goal.returns
returns c = filling_last c.loop-j.invariant c.loop-j-test.false
