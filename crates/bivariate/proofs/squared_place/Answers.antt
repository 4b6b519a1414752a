-- `bivariate::squared_place` meets its contract, by the parity of i. Assumes nothing.
use borrow.Author.Tests.{eq-eqb, ne_eqb}
use Rattle.definition.specs.Bernstein.{spread}
use Rattle.definition.specs.KinoshitaLi.{squared}
use Rattle.bivariate.proofs.squared_place.Goals as goal

pub returns-then-i-eq0 : goal.returns-then-i-eq0
unfolding squared spread
returns-then-i-eq0 c = rw (eq-eqb _ _ c.if-i-eq0.true) c.held_place.ensures

pub returns-else-i-eq0 : goal.returns-else-i-eq0
unfolding squared spread
returns-else-i-eq0 c = rw (ne_eqb _ _ c.if-i-eq0.false)
