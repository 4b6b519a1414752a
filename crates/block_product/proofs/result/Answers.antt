-- `block_product::result` meets its contract: the places below k are there. Assumes nothing.
use borrow.Author.Rules.{rules}
use native.Mathlib.Omega.{arith}
use Rattle.block_product.specs.Results.{tile_first, tile_last, tile_next, tile_rooms}
use mathlib.Core.Path.{refl}
use Rattle.block_product.proofs.result.Goals as goal

pub loop-k-init : goal.loop-k-init
loop-k-init c = (omega arith, refl, refl, refl, tile_first _ _)

pub tile-requires : goal.tile-requires
tile-requires c =
    let end = c.smaller-end.ensures in (
      c.requires.0,
      c.requires.1,
      tile_rooms c.requires.2 c.loop-k.invariant.2 c.loop-k.invariant.3 _ _ _ c.loop-k.invariant.1 (omega (arith, end, c.loop-k.invariant.0))
          (omega (arith, end)) (omega (arith, end)),
    )

pub loop-k-smaller : goal.loop-k-smaller
loop-k-smaller c = omega (arith, c.smaller-end.ensures, c.loop-k-test.true)

pub loop-k-preserved : goal.loop-k-preserved
loop-k-preserved c =
    let end = c.smaller-end.ensures in (
      omega (arith, end),
      search rules,
      search rules,
      search rules,
      tile_next _ _ _ _ _ _ _ _ _ c.loop-k.invariant.4 (omega (arith, end, c.loop-k.invariant.0)) (omega (arith, end)) c.tile.ensures,
    )

pub returns : goal.returns
returns c =
    tile_last _ _ _ _ _ _ _ _ c.loop-k.invariant.4 (omega (arith, c.loop-k.invariant.0, c.loop-k-test.false))
