-- `division::complement` meets its contract. Assumes nothing.
use native.Mathlib.Omega.{arith}
use lib.Seq.{length-take-le}
use mathlib.Core.Path.{sym, ◌∙◌}
use Rattle.buffer.specs.Filling.{filling_first, filling_last, filling_next}
use Rattle.route.specs.Filling.{filling_kept}
use Rattle.division.proofs.complement.Goals as goal

pub loop-k-init : goal.loop-k-init
loop-k-init c = filling_first _ _ _ _

pub slice_bounds-complement_place-end-in-loop-k : goal.slice_bounds-complement_place-end-in-loop-k
slice_bounds-complement_place-end-in-loop-k c = sym (length-take-le _ _ (omega arith))

pub loop-k-preserved : goal.loop-k-preserved
loop-k-preserved c =
    let filling = c.loop-k.invariant in
    filling_next filling c.loop-k-test.true (c.complement_place.ensures ∙ rw (filling_kept filling c.requires.1))

pub returns : goal.returns
returns c = filling_last c.loop-k.invariant c.loop-k-test.false
