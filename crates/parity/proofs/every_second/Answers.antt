-- `parity::every_second` meets its contract. Assumes nothing.
use native.Mathlib.Nat.{zero-add}
use native.Mathlib.Omega.{arith}
use Prim.Native.Nat.{◌+◌, ◌*◌}
use lib.Seq.{get_or-take}
use mathlib.Core.Path.{sym}
use Rattle.buffer.specs.Filling.{filling_first, filling_last, filling_next}
use Rattle.definition.specs.Lists.{coefficient}
use Rattle.parity.specs.Halves.{second}
use Rattle.parity.proofs.every_second.Goals as goal

pub loop-i-init : goal.loop-i-init
loop-i-init c = filling_first _ _ _ _

pub loop-i-preserved : goal.loop-i-preserved
unfolding second coefficient
loop-i-preserved c =
    let given = c.args in
    rw zero-add at (filling_next c.loop-i.invariant (omega arith) (sym (get_or-take given.n given.x.now (2 * c.loop-i.i + given.from) 0 (omega arith))))

pub returns : goal.returns
returns c = filling_last c.loop-i.invariant (omega arith)
