-- `division::complement_place` meets its contract, by the power. Assumes nothing.
use mathlib.Core.Path.{sym, ◌∙◌}
use Rattle.division.specs.Quotient.{complement, complement-suc}
use Rattle.division.proofs.complement_place.Goals as goal

pub returns-then-j-eq0 : goal.returns-then-j-eq0
unfolding complement
returns-then-j-eq0 c = rw c.if-j-eq0.true

pub returns : goal.returns
returns c = c.negative.ensures ∙ rw c.place.ensures (sym (complement-suc _ _ _ c.if-j-eq0.false))
