-- `reversion::start` meets its contract. Assumes nothing.
use mathlib.Core.Path.{◌∙◌}
use Rattle.reversion.specs.Start.{started-put, started-zeros}
use Rattle.reversion.proofs.start.Goals as goal

pub returns-then-n-gt1 : goal.returns-then-n-gt1
returns-then-n-gt1 c =
    started-put c.args.p c.args.g.now c.args.h.now c.clear.ensures c.if-n-gt1.true
    (c.inverse.ensures ∙ rw c.place.ensures)

pub returns-else-n-gt1 : goal.returns-else-n-gt1
returns-else-n-gt1 c =
    started-zeros c.args.p c.args.g.now c.args.h.now c.clear.ensures c.if-n-gt1.false
