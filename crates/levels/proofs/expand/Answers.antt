-- `levels::expand` meets its contract. Assumes nothing.
use borrow.Author.Rules.{rules}
use native.Mathlib.Omega.{arith}
use mathlib.Core.Logic.{inr}
use Rattle.levels.specs.Graeffe.{expanded_written, spread-room}
use Rattle.levels.proofs.expand.Goals as goal

pub squared-requires : goal.squared-requires
squared-requires c = record { source = omega arith; target = omega arith; apart = inr (omega arith) }

pub multiply_spread-requires : goal.multiply_spread-requires
multiply_spread-requires c =
    let squared = c.squared.ensures in
    (rw squared (spread-room c.requires (search rules)), c.requires.size)

pub returns : goal.returns
returns c =
    rw (c.multiply_spread.ensures.written, c.multiply_spread.ensures.places, c.squared.ensures)
    (expanded_written c.requires)
