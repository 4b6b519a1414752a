-- `bivariate::opposite_place` meets its contract, by the parity of i. Assumes nothing.
use borrow.Author.Tests.{eq-eqb, ne_eqb}
use mathlib.Core.Path.{◌∙◌}
use Rattle.definition.specs.KinoshitaLi.{opposite}
use Rattle.bivariate.proofs.opposite_place.Goals as goal

pub returns-then-i-eq0 : goal.returns-then-i-eq0
unfolding opposite
returns-then-i-eq0 c = rw (eq-eqb _ _ c.if-i-eq0.true) c.held_place-c.ensures

pub returns-else-i-eq0 : goal.returns-else-i-eq0
unfolding opposite
returns-else-i-eq0 c = rw (ne_eqb _ _ c.if-i-eq0.false) (c.negative.ensures ∙ rw c.held_place-c.ensures)
