-- `opposite_product::opposite_small` meets its contract. Assumes nothing.
use native.Mathlib.Omega.{arith}
use Rattle.opposite_product.specs.Opposite.{sized}
use Rattle.summed_product.specs.Zeros.{zeros-replicate}
use Rattle.opposite_product.proofs.opposite_small.Goals as goal

pub opposite_in-requires : goal.opposite_in-requires
opposite_in-requires c =
    (c.requires.0, sized c.requires.0.reading.modulus _ _ 16 (omega arith) c.requires.1 (zeros-replicate 392) (zeros-replicate 512) (zeros-replicate 512))
