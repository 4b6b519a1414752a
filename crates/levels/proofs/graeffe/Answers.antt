-- `levels::graeffe` meets its contract. Assumes nothing.
use borrow.Author.Rules.{rules}
use native.Mathlib.Omega.{arith}
use mathlib.Core.Logic.{inl}
use Rattle.levels.specs.Graeffe.{graeffe-written, opposite-room}
use Rattle.levels.proofs.graeffe.Goals as goal

pub opposite-requires : goal.opposite-requires
opposite-requires c =
    (c.requires.modulus, record { source = omega arith; target = omega arith; apart = inl (omega arith) })

pub multiply_opposite-places-requires : goal.multiply_opposite-places-requires
multiply_opposite-places-requires c =
    (opposite-room c.requires (search rules) (search rules), c.requires.size)

pub even_part-requires : goal.even_part-requires
even_part-requires c = record { source = omega arith; target = omega arith; apart = inl (omega arith) }

pub returns : goal.returns
returns c =
    rw (c.even_part.ensures, c.multiply_opposite-places.ensures.written, c.multiply_opposite-places.ensures.places, c.opposite.ensures)
    (graeffe-written c.requires)
