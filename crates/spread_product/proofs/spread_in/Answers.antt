-- `spread_product::spread_in` meets its contract. Assumes nothing.
use native.Mathlib.Omega.{arith}
use Prim.Native.Nat.{◌*◌, ◌≤◌}
use mathlib.Core.Path.{refl, ◌∙◌}
use Rattle.double_parts.specs.Rows.{half-positive, half-size}
use Rattle.double_parts.specs.Rows.{next_fits, part_of, source_of}
use Rattle.spread_product.specs.Spread.{even-factors, odd-factors, product_of_lem, spread_putting, spread_written}
use Rattle.spread_product.proofs.spread_in.Goals as goal
use Rattle.spread_product.proofs.spread_in.Goals.{After-rounded_up-half}

size : (c : After-rounded_up-half) → c.args.more * c.rounded_up-half.result ≤ c.requires.1.side * c.requires.1.side
size c = half-size _ _ c.rounded_up-half.ensures c.requires.1.size

pub rounded_up-half-requires : goal.rounded_up-half-requires
rounded_up-half-requires c = (omega arith, omega (arith, c.requires.0.order))

pub overflow_sub-rest : goal.overflow_sub-rest
overflow_sub-rest c = omega (arith, c.rounded_up-half.ensures, (half-positive c.requires.0.first.positive).1)

pub product-requires : goal.product-requires
product-requires c =
    let it = even-factors c.requires.0 c.requires.1.lists (size (goal.at.product-requires c).After-rounded_up-half) c.rounded_up-half.ensures refl c.requires.1.factors in
    let part = part_of c.every_second-e.ensures (it.0, it.1) in
    (part.0, part.1, source_of c.every_second-u.ensures it.2, it.3)

pub overflow_add-b : goal.overflow_add-b
overflow_add-b c = record { fits = next_fits c.requires.0.second }

pub product-requires-2 : goal.product-requires-2
product-requires-2 c =
    let factors = c.requires.1.factors in
    let it = odd-factors c.requires.0 c.requires.1.lists (size (goal.at.product-requires-2 c).After-rounded_up-half) c.rounded_up-half.ensures refl record {
      clean-left = c.product.ensures.clean-left;
      clean-right = c.product.ensures.clean-right;
      left-room = rw c.product.auto.left factors.left-room;
      right-room = rw c.product.auto.right factors.right-room;
    } in
    let part = part_of c.every_second-o.ensures (it.0, it.1) in
    (part.0, part.1, source_of c.every_second-v.ensures it.2, it.3)

pub put-requires : goal.put-requires
put-requires c = (
  spread_putting c.requires.0 c.requires.1.lists (size (goal.at.put-requires c).After-rounded_up-half) c.rounded_up-half.ensures refl
      (product_of_lem _ _ _ _ _ _ _ c.every_second-e.ensures c.every_second-u.ensures c.product.ensures.put)
      (product_of_lem _ _ _ _ _ _ _ c.every_second-o.ensures c.every_second-v.ensures c.product-2.ensures.put),
  c.requires.0.target,
)

pub shape_of-left : goal.shape_of-left
shape_of-left c =
    c.product-2.auto.left ∙ c.product.auto.left

pub shape_of-right : goal.shape_of-right
shape_of-right c =
    c.product-2.auto.right ∙ c.product.auto.right

pub returns : goal.returns
returns c =
    spread_written c.requires.0 c.requires.1.lists (size (goal.at.returns c).After-rounded_up-half) c.rounded_up-half.ensures refl
    (product_of_lem _ _ _ _ _ _ _ c.every_second-e.ensures c.every_second-u.ensures c.product.ensures.put)
    (product_of_lem _ _ _ _ _ _ _ c.every_second-o.ensures c.every_second-v.ensures c.product-2.ensures.put) c.put.ensures
