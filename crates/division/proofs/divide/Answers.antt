-- `division::divide` meets its contract: 1 - b is written, then the inverse of b, then its product with a, which is moved to a's places.
-- Assumes nothing.
use borrow.Author.Rules.{rules}
use Rattle.buffer.specs.Segments.{copy_down}
use native.Mathlib.Omega.{arith}
use mathlib.Core.Logic.{inl}
use Rattle.division.specs.Quotient.{divided, divided_factor}
use Rattle.division.proofs.divide.Goals as goal

pub complement-requires : goal.complement-requires
complement-requires c =
    (search rules, record { source = omega arith; target = omega arith; apart = inl (omega arith) })

pub inverse-requires : goal.inverse-requires
inverse-requires c =
    divided_factor _ _ _ _ c.requires.0 c.requires.1 (omega arith) c.complement.ensures

pub multiply-requires : goal.multiply-requires
multiply-requires c = record {
  modulus = search rules;
  order = omega arith;
  left = record { source = omega arith; target = omega arith; apart = inl (omega arith) };
  right = record { source = omega arith; target = omega arith; apart = inl (omega arith) };
}

pub copy_part-requires : goal.copy_part-requires
copy_part-requires c = copy_down (search rules) (search rules)

pub returns : goal.returns
returns c =
    rw c.copy_part.ensures
    (divided _ _ _ _ c.requires.0 c.requires.1 (omega arith) c.complement.ensures c.inverse.ensures
    c.multiply.ensures)
