-- `added_product::add_places` meets its contract: after k turns the first k places are written. Assumes nothing.
use native.Mathlib.Nat.{mod-add-mod, mod-lt, le_refl}
use native.Mathlib.Omega.{arith}
use mathlib.Core.Path.{◌∙◌}
use Rattle.buffer.specs.Filling.{filling_after, filling_first, filling_last, filling_next}
use Rattle.definition.specs.Lists.{coefficient}
use Rattle.definition.specs.Substitution.{cut_sum, cut_sum_at}
use Rattle.added_product.proofs.add_places.Goals as goal

pub loop-k-init : goal.loop-k-init
loop-k-init c = filling_first _ _ _ _

pub sum-requires : goal.sum-requires
unfolding coefficient
sum-requires c =
    (rw c.reduced-c.ensures (mod-lt _ c.requires.0), c.requires.2 _ c.loop-k-test.true)

pub loop-k-preserved : goal.loop-k-preserved
unfolding cut_sum_at coefficient
loop-k-preserved c =
    let filling = c.loop-k.invariant in
    filling_next filling c.loop-k-test.true
    (c.sum.ensures ∙ rw (c.reduced-c.ensures, mod-add-mod, filling_after filling _ _ _ (le_refl _) c.loop-k-test.true))

pub returns : goal.returns
unfolding cut_sum
returns c = filling_last c.loop-k.invariant (omega arith)
