-- `double_rows::put_row` meets its contract: after i turns the first i places are written. Assumes nothing.
use native.Mathlib.Omega.{arith}
use Rattle.buffer.specs.Filling.{filling_first, filling_last, filling_next}
use Rattle.double_rows.proofs.put_row.Goals as goal

pub loop-i-init : goal.loop-i-init
loop-i-init c = filling_first _ _ _ _

pub place-requires : goal.place-requires
place-requires c = (c.requires.0, c.requires.1, c.loop-i-test.true)

pub loop-i-preserved : goal.loop-i-preserved
loop-i-preserved c = filling_next c.loop-i.invariant c.loop-i-test.true c.place.ensures

pub returns : goal.returns
returns c = filling_last c.loop-i.invariant (omega (arith, c.loop-i-test.false))
