-- `division::numerator` meets its contract. Assumes nothing.
use native.Mathlib.Omega.{arith}
use Prim.Native.Nat.{◌-◌}
use lib.ListN.{length}
use mathlib.Core.Path.{sym, ◌∙◌}
use Rattle.buffer.specs.Filling.{filling_first, filling_last, filling_next}
use Rattle.definition.specs.KinoshitaLi.{numerator}
use Rattle.definition.specs.Lists.{coefficient}
use Rattle.division.specs.Quotient.{reversed, reversed-table}
use Rattle.division.proofs.numerator.Goals as goal

pub loop-k-init : goal.loop-k-init
loop-k-init c = filling_first _ _ _ _

pub loop-k-preserved : goal.loop-k-preserved
unfolding coefficient
loop-k-preserved c =
    let f = c.args.f.now in
    let k = c.loop-k.k in
    filling_next c.loop-k.invariant c.loop-k-test.true (sym (reversed 0 f k (length f - 1 - k) (omega arith)))

pub returns : goal.returns
unfolding numerator
returns c = filling_last c.loop-k.invariant c.loop-k-test.false ∙ rw reversed-table
