-- `spread_product::spread` meets its contract. Assumes nothing.
use native.Mathlib.Omega.{arith}
use Prim.Native.Nat.{◌*◌, ◌≤◌}
use Rattle.spread_product.proofs.spread.Goals as goal

pub overflow_mul-places : goal.overflow_mul-places
overflow_mul-places c =
    let few : c.args.more * c.rounded_up.result ≤ 4096 = rw c.rounded_up.ensures c.requires.1 in
    record { fits = omega arith }

pub spread_tiny-requires : goal.spread_tiny-requires
spread_tiny-requires c = (c.requires.0, rw (← c.rounded_up.ensures) c.if-places-le64.true)

pub spread_small-requires : goal.spread_small-requires
spread_small-requires c = (c.requires.0, rw (← c.rounded_up.ensures) c.if-places-le256.true)
