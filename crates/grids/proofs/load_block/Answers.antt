-- `grids::load_block` meets its contract: after k turns the first k places are written. Assumes nothing.
use native.Mathlib.Omega.{arith}
use Rattle.buffer.specs.Filling.{filling_first, filling_last, filling_next}
use Rattle.grids.proofs.load_block.Goals as goal

pub loop-k-init : goal.loop-k-init
loop-k-init c = filling_first _ _ _ _

pub block_place-requires : goal.block_place-requires
block_place-requires c = (c.requires.0, λ h. c.requires.1 _ h)

pub loop-k-preserved : goal.loop-k-preserved
loop-k-preserved c = filling_next c.loop-k.invariant c.loop-k-test.true c.block_place.ensures

pub returns : goal.returns
returns c = filling_last c.loop-k.invariant (omega (arith, c.loop-k-test.false))
