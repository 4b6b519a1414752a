-- The measure is the number of places of a row, which falls by half.
use Rattle.double_karatsuba.proofs.+product.Given as goal

abbrev pub decreases-product : goal.decreases-product
decreases-product l = l.g.length
