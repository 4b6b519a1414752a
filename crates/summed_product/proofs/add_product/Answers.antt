-- `summed_product::add_product` meets its contract: the rows before i are added. Assumes nothing.
use borrow.Author.Rules.{rules}
use native.Mathlib.Nat.{le_refl}
use native.Mathlib.Omega.{arith}
use Rattle.summed_product.specs.Terms.{added_eight, added_none, added-wider, pair-length, rows-first, rows_last, rows_next}
use mathlib.Core.Path.{refl}
use Rattle.summed_product.proofs.add_product.Goals as goal

pub loop-i-init : goal.loop-i-init
loop-i-init c = (
  le_refl _,
  omega arith,
  omega (arith, c.excess.ensures),
  refl,
  refl,
  added_none (λ t b. rows-first c.requires _ t (omega (arith, c.excess.ensures))),
)

pub add_rows_at-requires : goal.add_rows_at-requires
add_rows_at-requires c =
    record {
      pair = pair-length c.loop-i.invariant.3 c.loop-i.invariant.4 c.requires;
      inside = omega (arith, c.loop-i-test.true, c.smaller-end.ensures);
      reached = omega (arith, c.loop-i-test.true, c.smaller-end.ensures);
      reaches = c.loop-i.invariant.2;
    }

pub loop-i-preserved : goal.loop-i-preserved
loop-i-preserved c = (
  omega (arith, c.loop-i.invariant.0),
  omega (arith, c.loop-i.invariant.0, c.loop-i-test.true, c.smaller-end.ensures),
  omega (arith, c.loop-i.invariant.2),
  search rules,
  search rules,
  added_eight c.loop-i.invariant.5 c.loop-i.invariant.0 refl c.add_rows_at.ensures (rows_next c.requires _),
)

pub returns : goal.returns
returns c =
    added-wider c.loop-i.invariant.5 (omega (arith, c.loop-i.invariant.1))
    (rows_last c.requires c.loop-i.i (omega (arith, c.loop-i-test.false, c.smaller-end.ensures)))
