-- `parts::part` meets its contract: after i turns the first i places of the part are written. Assumes nothing.
use native.Mathlib.Omega.{arith}
use Prim.Native.Nat.{ℕ, ◌+◌, ◌*◌, ◌-◌, ◌<◌}
use native.Mathlib.Nat.{le_refl}
use mathlib.Core.Path.{◌∙◌}
use Rattle.buffer.specs.Filling.{filling_first, filling_last, filling_next}
use Rattle.buffer.specs.Written.{length_part}
use Rattle.definition.specs.Bernstein.{part, part_at, part_count}
use Rattle.buffer.specs.Segments.{Apart, apart-within}
use Rattle.route.specs.Filling.{filling_place}
use Rattle.parts.specs.Counts.{part-place}
use Rattle.parts.proofs.part.Goals as goal
use Rattle.parts.proofs.part.Goals.{In-loop-i}

-- a turn: the place that is read is one of the list, and so is the one that is written

place : (c : In-loop-i) → (i : ℕ) → i < c.rounded_up-count.result → (c.args.j + c.args.p * i < c.args.m) × (i < c.args.m)
place c i below =
    part-place c.requires.0 c.args.m c.args.j i (rw c.rounded_up-count.ensures at below)

inside : (c : In-loop-i) → (c.args.j + c.args.p * c.loop-i.i < c.args.m) × (c.loop-i.i < c.args.m)
inside c = place c c.loop-i.i c.loop-i-test.true

apart : (c : In-loop-i) → Apart c.args.w.now c.args.a c.args.m c.args.t c.rounded_up-count.result
apart c =
    let most = (place c (c.rounded_up-count.result - 1) (omega arith)).1 in
    apart-within c.requires.3 (le_refl _) (le_refl _) (le_refl _) (omega arith)

pub loop-i-init : goal.loop-i-init
loop-i-init c = filling_first _ _ _ _

pub overflow_mul-w : goal.overflow_mul-w
overflow_mul-w c = omega (arith, inside c)

pub overflow_add-w : goal.overflow_add-w
overflow_add-w c = omega (arith, inside c)

pub overflow_add-w-in-loop-i : goal.overflow_add-w-in-loop-i
overflow_add-w-in-loop-i c = omega (arith, inside c)

pub offset_bounds-w-a : goal.offset_bounds-w-a
offset_bounds-w-a c = omega (arith, inside c)

pub bounds-w-a : goal.bounds-w-a
bounds-w-a c = omega (arith, inside (goal.at.bounds-w-a c).In-loop-i)

pub overflow_add-w-in-loop-i-2 : goal.overflow_add-w-in-loop-i-2
overflow_add-w-in-loop-i-2 c = omega (arith, inside (goal.at.overflow_add-w-in-loop-i-2 c).In-loop-i)

pub offset_bounds-w-t : goal.offset_bounds-w-t
offset_bounds-w-t c = omega (arith, inside (goal.at.offset_bounds-w-t c).In-loop-i)

pub bounds-w-t : goal.bounds-w-t
bounds-w-t c = omega (arith, inside (goal.at.bounds-w-t c).In-loop-i)

pub loop-i-preserved : goal.loop-i-preserved
unfolding part_at
loop-i-preserved c =
    let fits = inside (goal.at.loop-i-preserved c).In-loop-i in
    filling_next c.loop-i.invariant c.loop-i-test.true (filling_place c.loop-i.invariant (apart (goal.at.loop-i-preserved c).In-loop-i) _ fits.0)

pub returns : goal.returns
unfolding part part_count
returns c =
    let size = length_part c.args.w.now c.args.a c.args.m c.requires.3.source in
    record {
      written = filling_last c.loop-i.invariant (omega arith) ∙ rw (size, c.rounded_up-count.ensures);
      count = c.rounded_up-count.ensures;
    }
