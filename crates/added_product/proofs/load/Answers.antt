-- `added_product::load` meets its contract: after i turns the first i places are written. Assumes nothing.
use native.Mathlib.Nat.{zero-add}
use native.Mathlib.Omega.{arith}
use Rattle.buffer.specs.Filling.{filling_first, filling_last, filling_next}
use Rattle.definition.specs.Lists.{coefficient}
use Rattle.schoolbook.specs.ByRows.{residue_at, residue_list}
use Rattle.added_product.proofs.load.Goals as goal

pub loop-i-init : goal.loop-i-init
loop-i-init c = filling_first _ _ _ _

pub loop-i-preserved : goal.loop-i-preserved
unfolding residue_at coefficient
loop-i-preserved c =
    rw zero-add at (filling_next c.loop-i.invariant c.loop-i-test.true c.reduced.ensures)

pub returns : goal.returns
unfolding residue_list
returns c = filling_last c.loop-i.invariant (omega arith)
