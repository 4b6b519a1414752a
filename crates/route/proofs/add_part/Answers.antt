-- `route::add_part` meets its contract: after k turns the first k places are written. Assumes nothing.
use native.Mathlib.Omega.{arith}
use Prim.Native.Nat.{◌+◌, ◌%◌}
use mathlib.Core.Path.{ap₂, ◌∙◌}
use Rattle.buffer.specs.Filling.{filling_after, filling_first, filling_last, filling_next}
use Rattle.definition.specs.Lists.{coefficient}
use Rattle.definition.specs.Substitution.{cut_sum, cut_sum_at}
use Rattle.route.proofs.add_part.Goals as goal

pub loop-k-init : goal.loop-k-init
loop-k-init c = filling_first _ _ _ _

pub loop-k-preserved : goal.loop-k-preserved
unfolding cut_sum_at coefficient
loop-k-preserved c =
    let below = c.loop-k-test.true in
    let k = c.loop-k.k in
    let target = filling_after c.loop-k.invariant c.args.t c.args.n k (omega arith) below in
    let source = filling_after c.loop-k.invariant c.args.s c.args.n k (omega (arith, c.requires.1)) below in
    filling_next c.loop-k.invariant below (c.reduced_sum.ensures ∙ ap₂ (λ x y. (x + y) % c.args.p) target source)

pub returns : goal.returns
unfolding cut_sum
returns c = filling_last c.loop-k.invariant (omega arith)
