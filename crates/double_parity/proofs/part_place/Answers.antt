-- `double_parity::part_place` meets its contract: a place of the list where the part has one, else 0. Assumes nothing.
use native.Mathlib.Nat.{zero-mod}
use native.Mathlib.Omega.{arith}
use Prim.Native.Nat.{◌+◌, ◌*◌, ◌<◌}
use lib.ListN.{length}
use mathlib.Core.Path.{sym, ◌∙◌}
use Rattle.definition.specs.Lists.{coefficient}
use Rattle.double_parity.specs.Halves.{grid_above, grid_inside, grid_right}
use Rattle.double_parity.proofs.part_place.Goals as goal
use Rattle.double_parity.proofs.part_place.Goals.{Then-i-g}

inside : (c : Then-i-g) → c.args.g.at + c.args.j * c.args.g.outer + c.args.i * c.args.g.inner < length c.args.w.now
inside c = c.requires.1.inside _ _ c.if-j-g.true c.if-i-g.true

pub overflow_mul-j : goal.overflow_mul-j
overflow_mul-j c = record { fits = omega (arith, inside (goal.at.overflow_mul-j c).Then-i-g) }

pub overflow_add-g : goal.overflow_add-g
overflow_add-g c = record { fits = omega (arith, inside (goal.at.overflow_add-g c).Then-i-g) }

pub overflow_mul-i : goal.overflow_mul-i
overflow_mul-i c = record { fits = omega (arith, inside (goal.at.overflow_mul-i c).Then-i-g) }

pub overflow_add-g-then-i-g : goal.overflow_add-g-then-i-g
overflow_add-g-then-i-g c = record { fits = omega (arith, inside (goal.at.overflow_add-g-then-i-g c).Then-i-g) }

pub offset_bounds-w-g : goal.offset_bounds-w-g
offset_bounds-w-g c = record { fits = omega (arith, inside (goal.at.offset_bounds-w-g c).Then-i-g) }

pub bounds-w-g : goal.bounds-w-g
bounds-w-g c = inside (goal.at.bounds-w-g c).Then-i-g

pub returns-then-i-g : goal.returns-then-i-g
unfolding coefficient
returns-then-i-g c =
    let args = c.args in
    c.reduced.ensures ∙ sym (rw (grid_inside args.g args.w.now args.j args.i c.if-j-g.true c.if-i-g.true))

pub returns-else-i-g : goal.returns-else-i-g
returns-else-i-g c =
    let args = c.args in
    sym (rw (grid_right args.g args.w.now args.j args.i c.if-i-g.false, zero-mod))

pub returns-else-j-g : goal.returns-else-j-g
returns-else-j-g c =
    let args = c.args in
    sym (rw (grid_above args.g args.w.now args.j args.i c.if-j-g.false, zero-mod))
