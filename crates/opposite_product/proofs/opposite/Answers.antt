-- `opposite_product::opposite` meets its contract. Assumes nothing.
use native.Mathlib.Omega.{arith}
use Prim.Native.Nat.{◌*◌, ◌≤◌}
use Rattle.opposite_product.proofs.opposite.Goals as goal

pub overflow_mul-places : goal.overflow_mul-places
overflow_mul-places c =
    let few : c.args.rows * c.rounded_up.result ≤ 4096 = rw c.rounded_up.ensures c.requires.1 in
    record { fits = omega arith }

pub opposite_tiny-requires : goal.opposite_tiny-requires
opposite_tiny-requires c = (c.requires.0, rw (← c.rounded_up.ensures) c.if-places-le64.true)

pub opposite_small-requires : goal.opposite_small-requires
opposite_small-requires c = (c.requires.0, rw (← c.rounded_up.ensures) c.if-places-le256.true)
