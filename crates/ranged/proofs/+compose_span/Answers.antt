-- `ranged::compose_span` meets its contract. The measure is the level. Assumes nothing.
use native.Mathlib.Nat.{mul-le-mul}
use native.Mathlib.Omega.{arith}
use Rattle.ranged.specs.Joins.{join_operands, join_small, lower-operands, next_small, odd-operands, part_room, part-span, predecessor, span-joined, span-passed}
use Prim.Native.Nat.{◌-◌}
use Rattle.ranged.proofs.+compose_span.Goals as goal

-- the level

-- what the function is given at the measure t, and what a call of it asks below t

-- what the calls ask and what they ensure, below the measure t

pub compose_block-requires : goal.compose_block-requires
compose_block-requires t c = rw c.if-level-eq0.true at c.requires

pub returns-then-level-eq0 : goal.returns-then-level-eq0
returns-then-level-eq0 t c = rw c.if-level-eq0.true (part-span c.compose_block.ensures)

pub compose_span-even-requires : goal.compose_span-even-requires
compose_span-even-requires t c =
    (omega arith, lower-operands (predecessor c.args.level c.if-level-eq0.false) c.requires)

pub overflow_add-next : goal.overflow_add-next
overflow_add-next t c =
    let small = next_small c.requires (c.args.level - 1) (omega (arith, c.requires.levels)) in
    record { fits = rw c.power_of_two.ensures (omega (arith, small.0)) }

pub overflow_mul-b : goal.overflow_mul-b
overflow_mul-b t c =
    let small = next_small c.requires (c.args.level - 1) (omega (arith, c.requires.levels)) in
    record { fits = rw c.power_of_two.ensures (omega (arith, small.1)) }

pub returns-then-f-b : goal.returns-then-f-b
returns-then-f-b t c =
    span-passed (predecessor c.args.level c.if-level-eq0.false) c.requires
    (rw c.power_of_two.ensures at c.if-f-b.true) c.compose_span-even.ensures

pub overflow_add-beside : goal.overflow_add-beside
overflow_add-beside t c =
    record { fits = omega (arith, part_room c.requires, c.well_formed) }

pub compose_span-odd-requires : goal.compose_span-odd-requires
compose_span-odd-requires t c =
    let next = c.power_of_two.ensures in (
      omega (arith, c.decreases, c.if-level-eq0.false),
      rw next
          (odd-operands (predecessor c.args.level c.if-level-eq0.false) c.requires
          (rw next at c.if-f-b.false) c.compose_span-even.ensures),
    )

pub overflow_mul-power : goal.overflow_mul-power
overflow_mul-power t c =
    record { fits = omega (arith, mul-le-mul c.requires.levels c.requires.order) }

pub join-joined-requires : goal.join-joined-requires
join-joined-requires t c =
    let next = c.power_of_two.ensures in
    join_operands (predecessor c.args.level c.if-level-eq0.false) c.requires
    (rw next at c.if-f-b.false) c.compose_span-even.ensures (rw next at c.compose_span-odd.ensures)

pub plus-requires : goal.plus-requires
plus-requires t c =
    let pre = c.requires in
    omega (arith, join_small pre.order pre.outer c.compose_span-even.ensures c.compose_span-odd.ensures)

pub plus-requires-2 : goal.plus-requires-2
plus-requires-2 t c =
    let pre = c.requires in
    omega (
      arith,
      join_small pre.order pre.outer c.compose_span-even.ensures c.compose_span-odd.ensures,
      c.join-joined.ensures.places,
      c.plus.ensures,
    )

pub returns : goal.returns
returns t c =
    let next = c.power_of_two.ensures in
    rw (c.plus-2.ensures, c.plus.ensures)
    (span-joined (predecessor c.args.level c.if-level-eq0.false) c.requires
    (rw next at c.if-f-b.false) c.compose_span-even.ensures (rw next at c.compose_span-odd.ensures) c.join-joined.ensures)
