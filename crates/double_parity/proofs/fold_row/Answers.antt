-- `double_parity::fold_row` meets its contract: after i turns the first i places are written. Assumes nothing.
use native.Mathlib.Nat.{add-mod-mod, mod-add-mod, mod-lt}
use mathlib.Core.Path.{◌∙◌}
use Rattle.buffer.specs.Filling.{filling_first, filling_last, filling_next}
use Rattle.double_parity.specs.Halves.{folded}
use Rattle.double_parity.proofs.fold_row.Goals as goal

pub loop-i-init : goal.loop-i-init
loop-i-init c = filling_first _ _ _ _

pub sum-requires : goal.sum-requires
sum-requires c =
    let positive = c.requires.0 in
    (rw c.part_place-even.ensures (mod-lt _ positive), rw c.part_place-odd.ensures (mod-lt _ positive))

pub loop-i-preserved : goal.loop-i-preserved
unfolding folded
loop-i-preserved c =
    filling_next c.loop-i.invariant c.loop-i-test.true
    (c.sum.ensures ∙ rw (c.part_place-even.ensures, c.part_place-odd.ensures, mod-add-mod, add-mod-mod))

pub returns : goal.returns
returns c = filling_last c.loop-i.invariant c.loop-i-test.false
