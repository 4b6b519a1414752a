-- `grids::oriented` meets its contract. Assumes nothing.
use Rattle.grids.specs.Parts.{orient}
use mathlib.Core.Path.{sym}
use Rattle.grids.proofs.oriented.Goals as goal

pub returns-then-turned : goal.returns-then-turned
unfolding orient
returns-then-turned c = sym (rw c.if-turned.true)

pub returns : goal.returns
unfolding orient
returns c = sym (rw c.if-turned.false)
