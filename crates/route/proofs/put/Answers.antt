-- `route::put` meets its contract: after k turns the first k places are written. Assumes nothing.
use native.Mathlib.Omega.{arith}
use Rattle.buffer.specs.Filling.{filling_first, filling_last, filling_next}
use Rattle.route.proofs.put.Goals as goal

pub loop-k-init : goal.loop-k-init
loop-k-init c = filling_first _ _ _ _

pub loop-k-preserved : goal.loop-k-preserved
loop-k-preserved c = filling_next c.loop-k.invariant c.loop-k-test.true c.place.ensures

pub returns : goal.returns
returns c = filling_last c.loop-k.invariant (omega arith)
