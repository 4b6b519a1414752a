-- `single_product::add_product` meets its contract: each way of few places is the contract of its callee, and above 4096 places the front is written
-- and then the rest. The measure is the number of places. Assumes nothing.
use Rattle.single_product.proofs.+add_product.Given as goal

abbrev pub decreases-add_product : goal.decreases-add_product
decreases-add_product l = l.n
