-- `parts::spread` meets its contract: after i turns the first i places are written. Assumes nothing.
use native.Mathlib.Nat.{add-sub_cancel_left}
use native.Mathlib.Omega.{arith}
use mathlib.Core.Path.{◌∙◌}
use Rattle.buffer.specs.Filling.{filling_first, filling_last, filling_next}
use Rattle.definition.specs.Bernstein.{spread_list}
use Rattle.route.specs.Filling.{filling_kept}
use Rattle.parts.proofs.spread.Goals as goal

pub loop-i-init : goal.loop-i-init
loop-i-init c = filling_first _ _ _ _

pub loop-i-preserved : goal.loop-i-preserved
loop-i-preserved c =
    filling_next c.loop-i.invariant c.loop-i-test.true
    (c.spread_coefficient.ensures ∙ rw (add-sub_cancel_left, filling_kept c.loop-i.invariant c.requires.1))

pub returns : goal.returns
unfolding spread_list
returns c = filling_last c.loop-i.invariant (omega arith)
