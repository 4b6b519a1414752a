-- `rows::add_four_rows` meets its contract: the rows are added at the places below t. Assumes nothing.
use Rattle.std.proofs.Common.{◌≡◌, refl, arith, length-set, rules}
use Rattle.rows.specs.Rows.{four_below, four-rows, passed-next, passed_none, places-below}
use Rattle.rows.proofs.add_four_rows.Goals as goal

pub loop-t-init : goal.loop-t-init
loop-t-init c = (search rules, c.requires.ordered, refl, refl, passed_none)

pub four_products-s-requires : goal.four_products-s-requires
four_products-s-requires c =
    let factors = c.requires in
    (four_below factors.left_below c.places-f.ensures, places-below factors.right-below _ (omega (arith, factors.right)))

pub loop-t-preserved : goal.loop-t-preserved
loop-t-preserved c =
    let inv = c.loop-t.invariant in
    let first = c.add_to.ensures in
    let second = c.add_to-in-loop-t.ensures in (
      omega arith,
      omega (arith, c.loop-t-test.true),
      rw (first, length-set) inv.2,
      rw (second, length-set) inv.3,
      rw (first, second)
          (passed-next inv.0 (omega (arith, inv.2, c.loop-t-test.true, c.requires.sums-room)) (omega (arith, inv.3, c.loop-t-test.true, c.requires.high-room)) inv.4
          (rw (← four-rows _ _ _ _ c.places-f.ensures) c.four_products-s.ensures) refl refl),
    )

pub returns : goal.returns
returns c =
    let inv = c.loop-t.invariant in
    let all : c.loop-t.t ≡ c.args.to = omega (arith, inv.1, c.loop-t-test.false) in
    rw all at inv.4
