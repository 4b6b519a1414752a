-- `double_rows::place` meets its contract. Assumes nothing.
use native.Mathlib.Omega.{arith}
use Rattle.double_rows.specs.Places.{halves-square, place_of}
use mathlib.Core.Path.{sym, ◌∙◌}
use Rattle.double_rows.proofs.place.Goals as goal

pub opposite_place-requires : goal.opposite_place-requires
opposite_place-requires c =
    (halves-square c.requires.0 c.if-opposite.true, c.requires.1, omega (arith, c.requires.2, (c.requires.0.square c.if-opposite.true).1))

pub returns-then-opposite : goal.returns-then-opposite
unfolding place_of
returns-then-opposite c = c.opposite_place.ensures ∙ sym (rw c.if-opposite.true)

pub spread_place-requires : goal.spread_place-requires
spread_place-requires c =
    (c.requires.0.halves, c.requires.1, omega (arith, c.requires.2, c.requires.0.whole c.if-opposite.false), c.requires.0.near, c.requires.0.shorter)

pub returns : goal.returns
unfolding place_of
returns c = c.spread_place.ensures ∙ sym (rw c.if-opposite.false)
