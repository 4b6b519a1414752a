-- `ranged::compose_block` meets its contract: the part that is handed to Horner is the block. Assumes nothing.
use native.Mathlib.Nat.{mul-le-mul_left}
use Rattle.ranged.specs.Joins.{next_small, part-operands}
use Rattle.ranged.specs.Spans.{block-part}
use native.Mathlib.Omega.{arith}
use Prim.Native.Nat.{◌+◌, ◌*◌, ◌≤◌}
use Rattle.ranged.proofs.compose_block.Goals as goal

pub block_place-start-requires : goal.block_place-start-requires
block_place-start-requires c =
    omega (arith, c.requires.begins, c.requires.outer)

pub overflow_add-j : goal.overflow_add-j
overflow_add-j c =
    record { fits = omega (arith, (next_small c.requires 0 (omega arith)).0) }

pub block_place-end-requires : goal.block_place-end-requires
block_place-end-requires c =
    omega (arith, (next_small c.requires 0 (omega arith)).1)

pub slice_bounds-horner_part-count : goal.slice_bounds-horner_part-count
slice_bounds-horner_part-count c =
    let a = c.args in
    let step : a.b * a.j ≤ a.b * (a.j + 1) = mul-le-mul_left a.b (omega arith) in
    omega arith

pub slice_bounds-horner_part-start : goal.slice_bounds-horner_part-start
slice_bounds-horner_part-start c =
    let a = c.args in
    let step : a.b * a.j ≤ a.b * (a.j + 1) = mul-le-mul_left a.b (omega arith) in
    omega arith

pub horner_part-requires : goal.horner_part-requires
horner_part-requires c =
    let part = block-part c.args.b c.args.f.now c.args.j c.requires.begins in
    rw (c.block_place-end.ensures, c.block_place-start.ensures, part)
    (part-operands c.requires)

pub returns : goal.returns
returns c =
    let part = block-part c.args.b c.args.f.now c.args.j c.requires.begins in
    rw (c.block_place-end.ensures, c.block_place-start.ensures, part)
    at c.horner_part.ensures
