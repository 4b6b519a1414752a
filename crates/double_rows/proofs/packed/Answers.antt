-- `double_rows::packed` meets its contract. Assumes nothing.
use native.Mathlib.Omega.{arith}
use Rattle.definition.specs.Lists.{coefficient}
use Rattle.double_rows.specs.Places.{packed-column, packed-row, packed_at}
use mathlib.Core.Path.{sym}
use Rattle.double_rows.proofs.packed.Goals as goal

pub overflow_mul-result : goal.overflow_mul-result
overflow_mul-result c = record { fits = omega (arith, packed-column c.requires.0, c.requires.1, c.ranges) }

pub overflow_add-result : goal.overflow_add-result
overflow_add-result c = record { fits = omega (arith, packed-column c.requires.0, c.requires.1, c.ranges) }

pub offset_bounds-l-i : goal.offset_bounds-l-i
offset_bounds-l-i c = record { fits = omega (arith, packed-column c.requires.0, c.requires.1, c.ranges) }

pub bounds-l-i : goal.bounds-l-i
bounds-l-i c = omega (arith, packed-column c.requires.0, c.requires.1)

pub returns-then-turned : goal.returns-then-turned
unfolding packed_at coefficient
returns-then-turned c = sym (rw c.if-turned.true)

pub overflow_mul-result-2 : goal.overflow_mul-result-2
overflow_mul-result-2 c = record { fits = omega (arith, packed-row c.requires.0, c.requires.1, c.ranges) }

pub overflow_add-result-2 : goal.overflow_add-result-2
overflow_add-result-2 c = record { fits = omega (arith, packed-row c.requires.0, c.requires.1, c.ranges) }

pub offset_bounds-l-j : goal.offset_bounds-l-j
offset_bounds-l-j c = record { fits = omega (arith, packed-row c.requires.0, c.requires.1, c.ranges) }

pub bounds-l-j : goal.bounds-l-j
bounds-l-j c = omega (arith, packed-row c.requires.0, c.requires.1)

pub returns : goal.returns
unfolding packed_at coefficient
returns c = sym (rw c.if-turned.false)
