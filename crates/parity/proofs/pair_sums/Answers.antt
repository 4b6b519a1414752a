-- `parity::pair_sums` meets its contract. Assumes nothing.
use native.Mathlib.Nat.{zero-add}
use native.Mathlib.Omega.{arith}
use Prim.Native.Nat.{◌+◌, ◌*◌}
use lib.Seq.{get_or-take}
use mathlib.Core.Path.{◌∙◌}
use Rattle.buffer.specs.Filling.{filling_first, filling_last, filling_next}
use Rattle.definition.specs.Lists.{coefficient}
use Rattle.parity.specs.Halves.{neighbour_sum}
use Rattle.parity.proofs.pair_sums.Goals as goal

pub loop-i-init : goal.loop-i-init
loop-i-init c = filling_first _ _ _ _

pub sum-requires : goal.sum-requires
unfolding coefficient
sum-requires c =
    let residues = c.requires.3 in
    (residues _ (omega arith), residues _ (omega arith))

pub loop-i-preserved : goal.loop-i-preserved
unfolding neighbour_sum coefficient
loop-i-preserved c =
    let given = c.args in
    rw zero-add at (filling_next c.loop-i.invariant (omega arith)
    (c.sum.ensures
    ∙ rw (
      get_or-take given.n given.x.now (2 * c.loop-i.i) 0 (omega arith),
      get_or-take given.n given.x.now (2 * c.loop-i.i + 1) 0 (omega arith),
    )))

pub returns : goal.returns
returns c = filling_last c.loop-i.invariant (omega arith)
