-- `grids::block_place` meets its contract. Assumes nothing.
use native.Mathlib.Omega.{arith}
use Prim.Native.Nat.{◌+◌, ◌*◌, ◌<◌}
use lib.ListN.{length}
use Rattle.grids.specs.Grid.{block-behind, block_inside}
use Rattle.definition.specs.Lists.{coefficient}
use mathlib.Core.Path.{sym, ◌∙◌}
use Rattle.grids.proofs.block_place.Goals as goal
use Rattle.grids.proofs.block_place.Goals.{Then-k-n}

abbrev inside : (c : Then-k-n) → c.args.at + c.args.k * c.args.inner
    < length c.args.w.now
inside c = c.requires.1 c.if-k-n.true

pub overflow_mul-k : goal.overflow_mul-k
overflow_mul-k c = record { fits = omega (arith, inside c, c.ranges) }

pub overflow_add-at : goal.overflow_add-at
overflow_add-at c = record { fits = omega (arith, inside c, c.ranges) }

pub offset_bounds-w-at : goal.offset_bounds-w-at
offset_bounds-w-at c = record { fits = omega (arith, inside c, c.ranges) }

pub bounds-w-at : goal.bounds-w-at
bounds-w-at c = inside (goal.at.bounds-w-at c).Then-k-n

pub returns-then-k-n : goal.returns-then-k-n
unfolding coefficient
returns-then-k-n c =
    c.wide.ensures ∙ c.reduced.ensures ∙ sym (block_inside _ _ _ _ _ _ c.if-k-n.true)

pub returns-else-k-n : goal.returns-else-k-n
returns-else-k-n c = sym (block-behind _ _ _ _ _ _ (omega (arith, c.if-k-n.false)))
