-- `newton_step::subtract` meets its contract: after k turns the first k places are written. Assumes nothing.
use borrow.Author.Rules.{rules}
use native.Mathlib.Omega.{arith}
use Prim.Native.Nat.{◌-◌}
use lib.ListN.{length}
use Rattle.buffer.specs.Filling.{Filling, filling_first}
use Rattle.buffer.specs.Segments.{segment}
use Rattle.newton_step.specs.Newton.{difference_at}
use Rattle.newton_step.specs.Step.{subtract_last, subtract_next}
use Rattle.newton_step.proofs.subtract.Goals as goal

pub loop-k-init : goal.loop-k-init
loop-k-init c = filling_first _ _ _ _

pub loop-k-preserved : goal.loop-k-preserved
loop-k-preserved c =
    subtract_next c.args.p c.args.t c.args.h.now c.args.w.now c.loop-k.invariant
    (omega (arith, c.loop-k.invariant.size)) c.difference.ensures

pub returns : goal.returns
returns c =
    subtract_last c.args.p c.args.t c.args.h.now c.args.w.now c.loop-k.invariant
    (omega (arith, c.loop-k.invariant.size))
