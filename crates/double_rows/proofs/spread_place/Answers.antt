-- `double_rows::spread_place` meets its contract. Assumes nothing.
use borrow.Author.Tests.{eq-eqb, ne_eqb}
use Rattle.double_rows.specs.Places.{spread_place}
use mathlib.Core.Path.{sym, ◌∙◌}
use Rattle.double_rows.proofs.spread_place.Goals as goal

pub returns-then-i-eq1 : goal.returns-then-i-eq1
unfolding spread_place
returns-then-i-eq1 c = c.packed.ensures ∙ sym (rw (eq-eqb _ 1 c.if-i-eq1.true))

pub returns : goal.returns
unfolding spread_place
returns c = c.packed-2.ensures ∙ sym (rw (ne_eqb _ 1 c.if-i-eq1.false))
