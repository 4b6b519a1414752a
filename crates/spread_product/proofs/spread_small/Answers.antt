-- `spread_product::spread_small` meets its contract. Assumes nothing.
use native.Mathlib.Omega.{arith}
use Rattle.summed_product.specs.Zeros.{zeros-replicate}
use Rattle.spread_product.specs.Spread.{spread-sized}
use Rattle.spread_product.proofs.spread_small.Goals as goal

pub spread_in-requires : goal.spread_in-requires
spread_in-requires c =
    (c.requires.0, spread-sized c.requires.0.first.modulus _ _ 16 (omega arith) c.requires.1 (zeros-replicate 392) (zeros-replicate 776) (zeros-replicate 256) (zeros-replicate 256))
