-- `bivariate::squared_row` meets its contract. Assumes nothing.
use mathlib.Core.Path.{◌∙◌}
use Rattle.buffer.specs.Filling.{filling_first, filling_last, filling_next}
use Rattle.bivariate.specs.Steps.{filling_held}
use Rattle.bivariate.proofs.squared_row.Goals as goal

pub loop-i-init : goal.loop-i-init
loop-i-init c = filling_first _ _ _ _

pub loop-i-preserved : goal.loop-i-preserved
loop-i-preserved c =
    let filling = c.loop-i.invariant in
    filling_next filling c.loop-i-test.true
    (c.squared_place.ensures ∙ rw (filling_held filling c.args.h c.args.a c.requires))

pub returns : goal.returns
returns c = filling_last c.loop-i.invariant c.loop-i-test.false
