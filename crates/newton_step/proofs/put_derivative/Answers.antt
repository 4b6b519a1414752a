-- `newton_step::put_derivative` meets its contract: after k turns the first k places are written. Assumes nothing.
use borrow.Author.Rules.{rules}
use native.Mathlib.Omega.{arith}
use Prim.Native.Nat.{◌-◌}
use Rattle.buffer.specs.Filling.{Filling, filling_first, filling_last, filling_next}
use Rattle.definition.specs.Lists.{coefficient}
use Rattle.newton_step.specs.Newton.{derivative, derivative_at}
use Rattle.newton_step.proofs.put_derivative.Goals as goal

pub loop-k-init : goal.loop-k-init
loop-k-init c = filling_first _ _ _ _

pub loop-k-preserved : goal.loop-k-preserved
unfolding derivative_at coefficient
loop-k-preserved c =
    filling_next c.loop-k.invariant c.loop-k-test.true c.product.ensures

pub returns : goal.returns
unfolding derivative
returns c = filling_last c.loop-k.invariant (omega arith)
