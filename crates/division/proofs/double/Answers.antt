-- `division::double` meets its contract: the places behind the first k of the inverse are cleared, and then written. Assumes nothing.
use native.Mathlib.Omega.{arith}
use mathlib.Core.Logic.{inl, inr}
use Rattle.division.specs.Doubling.{inverted_doubled}
use Rattle.division.proofs.double.Goals as goal

pub multiply-requires : goal.multiply-requires
multiply-requires c =
    let pre = c.requires in
    record {
      modulus = pre.modulus;
      order = omega (arith, pre.order);
      left = record { source = omega arith; target = omega arith; apart = inl (omega arith) };
      right = record { source = omega arith; target = omega arith; apart = inl (omega arith) };
    }

pub multiply-requires-2 : goal.multiply-requires-2
multiply-requires-2 c =
    let pre = c.requires in
    record {
      modulus = pre.modulus;
      order = omega (arith, pre.order);
      left = record { source = omega arith; target = omega arith; apart = inr (omega arith) };
      right = record { source = omega arith; target = omega arith; apart = inl (omega arith) };
    }

pub returns : goal.returns
returns c =
    let pre = c.requires in (
      omega arith,
      omega arith,
      inverted_doubled pre (omega arith) (omega arith) (omega arith) c.clear_part.ensures c.multiply.ensures
          c.multiply-2.ensures,
    )
