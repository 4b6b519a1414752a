-- `grids::results` meets its contract. Assumes nothing.
use Rattle.grids.specs.Parts.{results_of}
use mathlib.Core.Path.{sym}
use Rattle.grids.proofs.results.Goals as goal

pub returns-then-turned : goal.returns-then-turned
unfolding results_of
returns-then-turned c = sym (rw c.if-turned.true)

pub returns : goal.returns
unfolding results_of
returns c = sym (rw c.if-turned.false)
