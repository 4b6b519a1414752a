-- `blocks::add_pairs` meets its contract: the pairs below l are added. Assumes nothing.
use borrow.Author.Rules.{rules}
use native.Mathlib.Nat.{le_refl}
use native.Mathlib.Omega.{arith}
use Prim.Native.Nat.{◌+◌, ◌-◌, ◌<◌, ◌≤◌}
use Rattle.summed_product.specs.Terms.{added_more, added_none}
use Rattle.blocks.specs.Blocks.{pair_of, pairs_count, pairs_done, pairs_next, pairs_none}
use mathlib.Core.Path.{refl}
use Rattle.blocks.proofs.add_pairs.Goals as goal
use Rattle.blocks.proofs.add_pairs.Goals.{In-loop-l}

abbrev inside : (c : In-loop-l) → (c.loop-l.l < c.args.a.count)
    × (c.loop-l.l ≤ c.args.j) × (c.args.j - c.loop-l.l < c.args.b.count)
inside c = c.requires.inside c.loop-l.l c.loop-l.invariant.0 c.loop-l-test.true

pub loop-l-init : goal.loop-l-init
loop-l-init c = (le_refl _, omega arith, refl, refl, added_none (λ t b. pairs_none _ _ _ _ _ _))

pub block-requires : goal.block-requires
block-requires c =
    omega (arith, (c.requires.factors.first.padded c.loop-l.l (inside c).0).fits, c.ranges)

pub overflow_sub-j : goal.overflow_sub-j
overflow_sub-j c = (inside (goal.at.overflow_sub-j c).In-loop-l).1

pub block-requires-in-loop-l : goal.block-requires-in-loop-l
block-requires-in-loop-l c =
    omega (arith, (c.requires.factors.second.padded _ (inside (goal.at.block-requires-in-loop-l c).In-loop-l).2).fits, c.ranges)

pub add_product-requires : goal.add_product-requires
add_product-requires c =
    let inv = c.loop-l.invariant in
    rw (c.block.ensures, c.block-in-loop-l.ensures)
    (pair_of c.requires _ inv.0 c.loop-l-test.true inv.2 inv.3)

pub loop-l-preserved : goal.loop-l-preserved
loop-l-preserved c =
    let inv = c.loop-l.invariant in
    let done = rw (c.block.ensures, c.block-in-loop-l.ensures) at c.add_product.ensures in (
      omega (arith, inv.0),
      omega (arith, inv.0, c.loop-l-test.true),
      search rules,
      search rules,
      rw (pairs_count c.loop-l.l c.args.from (c.args.a.length + 8) inv.0)
          (added_more inv.4 done (λ t b. pairs_next c.requires c.loop-l.l inv.0 c.loop-l-test.true t)),
    )

pub returns : goal.returns
returns c =
    pairs_done _ _ _ _ _ c.loop-l.l c.args.to c.args.from (omega (arith, c.loop-l.invariant.1, c.loop-l-test.false)) c.loop-l.invariant.4
