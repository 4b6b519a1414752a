-- `summed_product::add_pass` meets its contract. Assumes nothing.
use borrow.Author.Rules.{rules}
use native.Mathlib.Omega.{arith}
use Rattle.rows.specs.Rows.{factors_eight, factors-four, passed_eight}
use mathlib.Core.Path.{refl}
use Rattle.summed_product.proofs.add_pass.Goals as goal

pub add_eight_rows-requires : goal.add_eight_rows-requires
add_eight_rows-requires c =
    factors_eight c.requires c.if-p-le2147483648.true

pub add_four_rows-requires : goal.add_four_rows-requires
add_four_rows-requires c =
    factors-four c.requires (omega (arith, c.ranges)) (omega arith) (omega arith) refl refl

pub add_four_rows-requires-else-p-le2147483648 : goal.add_four_rows-requires-else-p-le2147483648
add_four_rows-requires-else-p-le2147483648 c =
    factors-four c.requires (omega (arith, c.ranges)) (omega arith) (omega arith) (search rules) (search rules)

pub returns-else-p-le2147483648 : goal.returns-else-p-le2147483648
returns-else-p-le2147483648 c = passed_eight c.add_four_rows.ensures c.add_four_rows-else-p-le2147483648.ensures
