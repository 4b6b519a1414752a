-- `spread_product::spread_tiny` meets its contract. Assumes nothing.
use native.Mathlib.Omega.{arith}
use Rattle.summed_product.specs.Zeros.{zeros-replicate}
use Rattle.spread_product.specs.Spread.{spread-sized}
use Rattle.spread_product.proofs.spread_tiny.Goals as goal

pub spread_in-requires : goal.spread_in-requires
spread_in-requires c =
    (c.requires.0, spread-sized c.requires.0.first.modulus _ _ 8 (omega arith) c.requires.1 (zeros-replicate 136) (zeros-replicate 264) (zeros-replicate 64) (zeros-replicate 64))
