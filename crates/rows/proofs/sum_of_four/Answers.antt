-- `rows::sum_of_four` meets its contract. Assumes nothing.
use Rattle.std.proofs.Common.{arith}
use Rattle.residue.specs.Residue.{product-below}
use Rattle.rows.proofs.sum_of_four.Goals as goal

pub overflow_add-result : goal.overflow_add-result
overflow_add-result c =
    let s = c.requires in
    omega (arith, product-below s.0.first s.1.place3, product-below s.0.second s.1.place2)

pub overflow_add-result-2 : goal.overflow_add-result-2
overflow_add-result-2 c =
    let s = c.requires in
    omega (arith, product-below s.0.first s.1.place3, product-below s.0.second s.1.place2, product-below s.0.third s.1.place1)

pub overflow_add-result-3 : goal.overflow_add-result-3
overflow_add-result-3 c =
    let s = c.requires in
    omega (arith, product-below s.0.first s.1.place3, product-below s.0.second s.1.place2, product-below s.0.third s.1.place1, product-below s.0.fourth s.1.place0)
