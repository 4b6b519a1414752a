-- `single_product::add_product` meets its contract: each way of few places is the contract of its callee, and above 4096 places the front is written
-- and then the rest. The measure is the number of places. Assumes nothing.
use Prim.Native.Nat.{◌+◌, ◌*◌, ◌/◌}
use native.Mathlib.Omega.{arith}
use native.Mathlib.Nat.{add-zero}
use mathlib.Core.Path.{◌∙◌}
use Rattle.single_product.specs.Long.{added-parts, operands_fewer}
use Rattle.coefficients.specs.Operands.{operands-length}
use Rattle.single_product.proofs.+add_product.Goals as goal

pub add_product-requires : goal.add_product-requires
add_product-requires t c = (omega arith, operands_fewer c.requires _ (omega arith))

pub add_from-requires-else-n-le4096 : goal.add_from-requires-else-n-le4096
add_from-requires-else-n-le4096 t c =
    (operands-length c.add_product.auto.w c.requires, omega arith)

pub returns-then-n-le20 : goal.returns-then-n-le20
returns-then-n-le20 t c = rw add-zero at c.add_from.ensures

pub returns-else-n-le4096 : goal.returns-else-n-le4096
returns-else-n-le4096 t c =
    c.add_from-else-n-le4096.ensures
    ∙ rw c.add_product.ensures (added-parts c.requires ((c.args.n + 4095) / 8192 * 4096) (omega arith))
