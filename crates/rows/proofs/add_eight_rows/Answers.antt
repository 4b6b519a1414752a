-- `rows::add_eight_rows` meets its contract: the rows are added at the places below t. Assumes nothing.
use Rattle.std.proofs.Common.{◌≡◌, refl, arith, length-set, rules}
use Rattle.rows.specs.Rows.{eight_rows, four_below, passed-next, passed_none, places-below}
use Rattle.rows.proofs.add_eight_rows.Goals as goal

pub loop-t-init : goal.loop-t-init
loop-t-init c = (search rules, c.requires.ordered, refl, refl, passed_none)

pub eight_products-s-requires : goal.eight_products-s-requires
eight_products-s-requires c =
    let factors = c.requires in (
      four_below factors.left_below c.places-f.ensures,
      four_below factors.left_below c.places-g.ensures,
      places-below factors.right-below _ (omega (arith, factors.right)),
      places-below factors.right-below _ (omega (arith, factors.right)),
    )

pub loop-t-preserved : goal.loop-t-preserved
loop-t-preserved c =
    let inv = c.loop-t.invariant in
    let first = c.add_to.ensures in
    let second = c.add_to-in-loop-t.ensures in (
      omega arith,
      omega (arith, c.loop-t-test.true),
      rw (first, length-set) inv.2,
      rw (second, length-set) inv.3,
      rw (first, second)
          (passed-next inv.0 (omega (arith, inv.2, c.loop-t-test.true, c.requires.sums-room)) (omega (arith, inv.3, c.loop-t-test.true, c.requires.high-room)) inv.4
          (rw (← eight_rows _ _ _ _ c.places-f.ensures c.places-g.ensures) c.eight_products-s.ensures) refl refl),
    )

pub returns : goal.returns
returns c =
    let inv = c.loop-t.invariant in
    let all : c.loop-t.t ≡ c.args.to = omega (arith, inv.1, c.loop-t-test.false) in
    rw all at inv.4
