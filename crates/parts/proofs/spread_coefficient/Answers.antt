-- `parts::spread_coefficient` meets its contract. Assumes nothing.
use borrow.Author.Tests.{eq-eqb, ne_eqb}
use mathlib.Core.Path.{◌∙◌}
use Rattle.definition.specs.Bernstein.{spread}
use Rattle.parts.proofs.spread_coefficient.Goals as goal

pub returns-then-k-p-eq0 : goal.returns-then-k-p-eq0
unfolding spread
returns-then-k-p-eq0 c = c.place.ensures ∙ rw (eq-eqb _ 0 c.if-k-p-eq0.true)

pub returns-else-k-p-eq0 : goal.returns-else-k-p-eq0
unfolding spread
returns-else-k-p-eq0 c = rw (ne_eqb _ 0 c.if-k-p-eq0.false)
