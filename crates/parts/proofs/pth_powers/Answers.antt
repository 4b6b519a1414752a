-- `parts::pth_powers` meets its contract: after i turns the first i places are written. Assumes nothing.
use native.Mathlib.Omega.{arith}
use Prim.Native.Nat.{◌%◌}
use mathlib.Core.Path.{ap, ◌∙◌}
use Rattle.buffer.specs.Filling.{filling_first, filling_last, filling_next}
use Rattle.buffer.specs.Written.{length_part}
use Rattle.route.specs.Filling.{filling_place}
use Rattle.parts.specs.Steps.{pth_powers-reduced}
use Rattle.parts.proofs.pth_powers.Goals as goal

pub loop-i-init : goal.loop-i-init
loop-i-init c = filling_first _ _ _ _

pub loop-i-preserved : goal.loop-i-preserved
loop-i-preserved c =
    filling_next c.loop-i.invariant c.loop-i-test.true
    (ap (λ x. x % c.args.p) (filling_place c.loop-i.invariant c.requires.1 c.loop-i.i c.loop-i-test.true))

pub returns : goal.returns
returns c =
    let size = length_part c.args.w.now c.args.a c.args.k c.requires.1.source in
    filling_last c.loop-i.invariant (omega arith) ∙ rw (pth_powers-reduced c.requires.0, size)
