-- `opposite_product::opposite_in` meets its contract. Assumes nothing.
use native.Mathlib.Omega.{arith}
use Prim.Native.Nat.{◌*◌, ◌<◌, ◌≤◌}
use mathlib.Core.Path.{refl}
use Rattle.opposite_product.specs.Opposite.{even-square, odd-square, opposite_putting, opposite-written, square_of}
use Rattle.double_parts.specs.Rows.{half-positive, half-size}
use Rattle.double_parts.specs.Rows.{part_of}
use Rattle.opposite_product.proofs.opposite_in.Goals as goal
use Rattle.opposite_product.proofs.opposite_in.Goals.{After-rounded_up-half}

-- half of r is not 0, and not more than r

some : (c : After-rounded_up-half) → 0 < c.rounded_up-half.result
some c = omega (arith, c.rounded_up-half.ensures, (half-positive c.requires.0.reading.positive).0)

within : (c : After-rounded_up-half) → c.rounded_up-half.result ≤ c.args.r
within c = omega (arith, c.rounded_up-half.ensures, (half-positive c.requires.0.reading.positive).1)

size : (c : After-rounded_up-half) → c.args.rows * c.rounded_up-half.result ≤ c.requires.1.side * c.requires.1.side
size c = half-size _ _ c.rounded_up-half.ensures c.requires.1.size

pub rounded_up-half-requires : goal.rounded_up-half-requires
rounded_up-half-requires c = (omega arith, omega (arith, c.requires.0.order))

pub overflow_sub-r : goal.overflow_sub-r
overflow_sub-r c = within (goal.at.overflow_sub-r c).After-rounded_up-half

pub square-requires : goal.square-requires
square-requires c =
    let it = even-square c.requires.0 c.requires.1.lists (size (goal.at.square-requires c).After-rounded_up-half) c.rounded_up-half.ensures refl c.requires.1.clean c.requires.1.left-room in
    let part = part_of c.every_second-e.ensures (it.0, it.1) in
    (part.0, part.1, it.2)

pub overflow_sub-half : goal.overflow_sub-half
overflow_sub-half c = some (goal.at.overflow_sub-half c).After-rounded_up-half

pub square-requires-2 : goal.square-requires-2
square-requires-2 c =
    let it = odd-square c.requires.0 c.requires.1.lists (size (goal.at.square-requires-2 c).After-rounded_up-half) c.rounded_up-half.ensures refl c.square.ensures.clean
    (rw c.square.auto.left c.requires.1.left-room) in
    let part = part_of c.every_second-o.ensures (it.0, it.1) in
    (part.0, part.1, it.2)

pub overflow_sub-half-2 : goal.overflow_sub-half-2
overflow_sub-half-2 c = some (goal.at.overflow_sub-half-2 c).After-rounded_up-half

pub put-requires : goal.put-requires
put-requires c = (
  opposite_putting c.requires.0 c.requires.1.lists (size (goal.at.put-requires c).After-rounded_up-half) c.rounded_up-half.ensures refl
      (square_of _ _ _ _ _ _ c.every_second-e.ensures c.square.ensures.put)
      (square_of _ _ _ _ _ _ c.every_second-o.ensures c.square-2.ensures.put),
  c.requires.0.target,
)

pub returns : goal.returns
returns c =
    opposite-written c.requires.0 c.requires.1.lists (size (goal.at.returns c).After-rounded_up-half) c.rounded_up-half.ensures refl
    (square_of _ _ _ _ _ _ c.every_second-e.ensures c.square.ensures.put)
    (square_of _ _ _ _ _ _ c.every_second-o.ensures c.square-2.ensures.put) c.put.ensures
