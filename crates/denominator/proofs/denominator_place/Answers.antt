-- `denominator::denominator_place` meets its contract, by the power of y. Assumes nothing.
use mathlib.Core.Path.{sym, ◌∙◌}
use Rattle.definition.specs.KinoshitaLi.{denominator}
use Rattle.definition.specs.Substitution.{constant}
use Rattle.denominator.specs.Powers.{constant_beyond, denominator_beyond}
use Rattle.denominator.proofs.denominator_place.Goals as goal

pub returns-then-i-eq0 : goal.returns-then-i-eq0
unfolding denominator constant
returns-then-i-eq0 c = rw (c.if-j-eq0.true, c.if-i-eq0.true)

pub returns-else-i-eq0 : goal.returns-else-i-eq0
unfolding denominator
returns-else-i-eq0 c = rw c.if-j-eq0.true (sym (constant_beyond 1 _ c.if-i-eq0.false))

pub returns-then-j-eq1 : goal.returns-then-j-eq1
unfolding denominator
returns-then-j-eq1 c = rw c.if-j-eq1.true (c.negative.ensures ∙ rw c.place.ensures)

pub returns : goal.returns
returns c = sym (denominator_beyond _ _ _ _ c.if-j-eq0.false c.if-j-eq1.false)
