-- `remainder::by_inverse` meets its contract: after k turns the first k places are written. Assumes nothing.
use Rattle.std.proofs.Common.{zero-add, arith}
use Rattle.buffer.specs.Filling.{filling_first, filling_last, filling_next}
use Rattle.definition.specs.Lists.{coefficient}
use Rattle.rows.specs.Sums.{remainder_at, remainder_list}
use Rattle.remainder.proofs.by_inverse.Goals as goal

pub loop-k-init : goal.loop-k-init
loop-k-init c = filling_first _ _ _ _

pub by_multiplication-requires : goal.by_multiplication-requires
by_multiplication-requires c = (
  c.requires.0,
  rw c.wide-inverse.ensures,
  c.requires.1.high-below _ c.loop-k-test.true,
  c.requires.1.low_below _ c.loop-k-test.true,
)

pub loop-k-preserved : goal.loop-k-preserved
unfolding remainder_at coefficient
loop-k-preserved c =
    rw zero-add at (filling_next c.loop-k.invariant c.loop-k-test.true c.by_multiplication.ensures)

pub returns : goal.returns
unfolding remainder_list
returns c = filling_last c.loop-k.invariant (omega arith)
