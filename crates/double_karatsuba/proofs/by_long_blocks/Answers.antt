-- `double_karatsuba::by_long_blocks` meets its contract. Assumes nothing.
use Rattle.summed_product.specs.Zeros.{zeros-replicate}
use Rattle.double_karatsuba.specs.Product.{product_needs, square-done, square_needs}
use Rattle.double_karatsuba.proofs.by_long_blocks.Goals as goal

pub square-requires : goal.square-requires
square-requires c =
    square_needs c.requires record { first = c.requires.few; second = c.requires.many } (zeros-replicate 4616) c.if-square.true

pub returns-then-square : goal.returns-then-square
returns-then-square c =
    square-done c.requires c.if-square.true c.square.ensures

pub product-requires : goal.product-requires
product-requires c = product_needs c.requires record { first = c.requires.few; second = c.requires.many } (zeros-replicate 4616) (zeros-replicate 9224)
