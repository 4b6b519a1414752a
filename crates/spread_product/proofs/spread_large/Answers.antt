-- `spread_product::spread_large` meets its contract. Assumes nothing.
use native.Mathlib.Omega.{arith}
use Prim.Native.Nat.{◌*◌, ◌≤◌}
use lib.ListN.{replicate}
use mathlib.Core.Path.{refl}
use Rattle.double_karatsuba.specs.Product.{same-multiplying}
use Rattle.double_parts.specs.Rows.{half-positive, half-size}
use Rattle.double_parts.specs.Rows.{next_fits}
use Rattle.double_parts.specs.Made.{Made, made}
use Rattle.spread_product.specs.Spread.{even-multiplying, long_product_of, odd-multiplying, spread_putting, spread_written}
use Rattle.summed_product.specs.Zeros.{zeros-replicate}
use Rattle.spread_product.proofs.spread_large.Goals as goal
use Rattle.spread_product.proofs.spread_large.Goals.{After-rounded_up-half}

size : (c : After-rounded_up-half) → c.args.more * c.rounded_up-half.result ≤ 64 * 64
size c = half-size _ _ c.rounded_up-half.ensures c.requires.1

lists : (c : After-rounded_up-half) → Made c.args.p 64 (64 * 64) (replicate 4096 0) (replicate 4096 0)
lists c = made c.requires.0.first.modulus (omega arith) (zeros-replicate 4096) (zeros-replicate 4096)

pub rounded_up-half-requires : goal.rounded_up-half-requires
rounded_up-half-requires c = (omega arith, omega (arith, c.requires.0.order))

pub overflow_sub-rest : goal.overflow_sub-rest
overflow_sub-rest c = omega (arith, c.rounded_up-half.ensures, (half-positive c.requires.0.first.positive).1)

pub product-requires : goal.product-requires
product-requires c =
    same-multiplying c.every_second-e.ensures c.every_second-u.ensures c.results-first.ensures
    (even-multiplying c.requires.0 (lists (goal.at.product-requires c).After-rounded_up-half) (size (goal.at.product-requires c).After-rounded_up-half) c.rounded_up-half.ensures refl)

pub overflow_add-b : goal.overflow_add-b
overflow_add-b c = record { fits = next_fits c.requires.0.second }

pub product-requires-2 : goal.product-requires-2
product-requires-2 c =
    same-multiplying c.every_second-o.ensures c.every_second-v.ensures c.results-second.ensures
    (odd-multiplying c.requires.0 (lists (goal.at.product-requires-2 c).After-rounded_up-half) (size (goal.at.product-requires-2 c).After-rounded_up-half) c.rounded_up-half.ensures refl)

pub put-requires : goal.put-requires
put-requires c = (
  spread_putting c.requires.0 (lists (goal.at.put-requires c).After-rounded_up-half) (size (goal.at.put-requires c).After-rounded_up-half) c.rounded_up-half.ensures refl
      (long_product_of _ _ _ _ _ _ _ c.every_second-e.ensures c.every_second-u.ensures c.results-first.ensures c.product.ensures)
      (long_product_of _ _ _ _ _ _ _ c.every_second-o.ensures c.every_second-v.ensures c.results-second.ensures c.product-2.ensures),
  c.requires.0.target,
)

pub returns : goal.returns
returns c =
    spread_written c.requires.0 (lists (goal.at.returns c).After-rounded_up-half) (size (goal.at.returns c).After-rounded_up-half) c.rounded_up-half.ensures refl
    (long_product_of _ _ _ _ _ _ _ c.every_second-e.ensures c.every_second-u.ensures c.results-first.ensures c.product.ensures)
    (long_product_of _ _ _ _ _ _ _ c.every_second-o.ensures c.every_second-v.ensures c.results-second.ensures c.product-2.ensures) c.put.ensures
