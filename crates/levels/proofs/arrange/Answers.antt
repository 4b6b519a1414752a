-- `levels::arrange` meets its contract. Assumes nothing.
use native.Mathlib.Omega.{arith}
use Prim.Native.Nat.{◌+◌, ◌-◌, ◌*◌, ◌/◌, ◌<◌, ◌^◌}
use Rattle.definition.specs.Lists.{ceil_div}
use Rattle.definition.specs.Weight.{degree_bound}
use Rattle.levels.specs.Layout.{layout_of}
use Rattle.levels.proofs.arrange.Goals as goal
use Rattle.levels.proofs.arrange.Goals.{After-excess-low}

-- the last part begins below 2^64

room : (c : After-excess-low) → (c.args.q + 1) * c.args.r + (c.args.m - c.args.d) * c.args.r
    + (c.args.q + 1) * c.args.r + (c.degree_bound-next.result + 1) * c.args.r
    + (c.degree_bound-next.result + 1) * ((c.args.r + 1) / 2)
    < 2 ^ 64
unfolding layout_of ceil_div
room c = rw (← c.degree_bound-next.ensures) at c.requires.places

pub overflow_add-next_count : goal.overflow_add-next_count
unfolding degree_bound
overflow_add-next_count c = omega arith

pub overflow_mul-result : goal.overflow_mul-result
overflow_mul-result c = omega (arith, room c)

pub overflow_mul-opposite : goal.overflow_mul-opposite
overflow_mul-opposite c = omega (arith, room c)

pub overflow_add-opposite : goal.overflow_add-opposite
overflow_add-opposite c = omega (arith, room c)

pub overflow_mul-product : goal.overflow_mul-product
overflow_mul-product c = omega (arith, room c)

pub overflow_add-product : goal.overflow_add-product
overflow_add-product c = omega (arith, room c)

pub overflow_mul-rest : goal.overflow_mul-rest
overflow_mul-rest c = omega (arith, room c)

pub overflow_add-rest : goal.overflow_add-rest
overflow_add-rest c = omega (arith, room c)

pub overflow_mul-below : goal.overflow_mul-below
overflow_mul-below c = omega (arith, room c)

pub overflow_add-below : goal.overflow_add-below
overflow_add-below c = omega (arith, room c)

pub returns : goal.returns
unfolding layout_of ceil_div
returns c = rw (c.excess-low.ensures, c.degree_bound-next.ensures)
