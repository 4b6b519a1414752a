-- `opposite_product::opposite_large` meets its contract. Assumes nothing.
use native.Mathlib.Omega.{arith}
use Prim.Native.Nat.{◌*◌, ◌<◌, ◌≤◌}
use lib.ListN.{replicate}
use mathlib.Core.Path.{refl}
use Rattle.double_karatsuba.specs.Product.{same-multiplying}
use Rattle.double_parts.specs.Made.{Made, made}
use Rattle.opposite_product.specs.Opposite.{even-multiplying, long_square_of, odd-multiplying, opposite_putting, opposite-written}
use Rattle.double_parts.specs.Rows.{half-positive, half-size}
use Rattle.summed_product.specs.Zeros.{zeros-replicate}
use Rattle.opposite_product.proofs.opposite_large.Goals as goal
use Rattle.opposite_product.proofs.opposite_large.Goals.{After-rounded_up-half}

-- half of r is not 0, and not more than r

some : (c : After-rounded_up-half) → 0 < c.rounded_up-half.result
some c = omega (arith, c.rounded_up-half.ensures, (half-positive c.requires.0.reading.positive).0)

within : (c : After-rounded_up-half) → c.rounded_up-half.result ≤ c.args.r
within c = omega (arith, c.rounded_up-half.ensures, (half-positive c.requires.0.reading.positive).1)

size : (c : After-rounded_up-half) → c.args.rows * c.rounded_up-half.result ≤ 64 * 64
size c = half-size _ _ c.rounded_up-half.ensures c.requires.1

lists : (c : After-rounded_up-half) → Made c.args.p 64 (2 * (64 * 64)) (replicate 8192 0) (replicate 8192 0)
lists c = made c.requires.0.reading.modulus (omega arith) (zeros-replicate 8192) (zeros-replicate 8192)

pub rounded_up-half-requires : goal.rounded_up-half-requires
rounded_up-half-requires c = (omega arith, omega (arith, c.requires.0.order))

pub overflow_sub-r : goal.overflow_sub-r
overflow_sub-r c = within (goal.at.overflow_sub-r c).After-rounded_up-half

pub overflow_sub-half : goal.overflow_sub-half
overflow_sub-half c = some (goal.at.overflow_sub-half c).After-rounded_up-half

pub product-requires : goal.product-requires
product-requires c =
    let part = c.every_second-e.ensures in
    same-multiplying part part c.results-first.ensures
    (even-multiplying c.requires.0 (lists (goal.at.product-requires c).After-rounded_up-half) (size (goal.at.product-requires c).After-rounded_up-half) c.rounded_up-half.ensures refl)

pub product-requires-2 : goal.product-requires-2
product-requires-2 c =
    let part = c.every_second-o.ensures in
    same-multiplying part part c.results-second.ensures
    (odd-multiplying c.requires.0 (lists (goal.at.product-requires-2 c).After-rounded_up-half) (size (goal.at.product-requires-2 c).After-rounded_up-half) c.rounded_up-half.ensures refl)

pub overflow_sub-half-2 : goal.overflow_sub-half-2
overflow_sub-half-2 c = some (goal.at.overflow_sub-half-2 c).After-rounded_up-half

pub put-requires : goal.put-requires
put-requires c = (
  opposite_putting c.requires.0 (lists (goal.at.put-requires c).After-rounded_up-half) (size (goal.at.put-requires c).After-rounded_up-half) c.rounded_up-half.ensures refl
      (long_square_of _ _ _ _ _ _ c.every_second-e.ensures c.results-first.ensures c.product.ensures)
      (long_square_of _ _ _ _ _ _ c.every_second-o.ensures c.results-second.ensures c.product-2.ensures),
  c.requires.0.target,
)

pub returns : goal.returns
returns c =
    opposite-written c.requires.0 (lists (goal.at.returns c).After-rounded_up-half) (size (goal.at.returns c).After-rounded_up-half) c.rounded_up-half.ensures refl
    (long_square_of _ _ _ _ _ _ c.every_second-e.ensures c.results-first.ensures c.product.ensures)
    (long_square_of _ _ _ _ _ _ c.every_second-o.ensures c.results-second.ensures c.product-2.ensures) c.put.ensures
