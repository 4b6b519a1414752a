-- `number::halvings` meets its contract: the number of halvings is that of the binary digits of n - 1. Assumes nothing.
use native.Mathlib.Omega.{arith}
use Prim.Native.Nat.{◌-◌}
use lib.Count.{leading_le}
use mathlib.Core.Path.{sym}
use Rattle.algebra.specs.Halvings.{halvings-1, halvings-leading}
use Rattle.number.proofs.halvings.Goals as goal

pub returns-then-n-le1 : goal.returns-then-n-le1
returns-then-n-le1 c = sym (halvings-1 _ c.if-n-le1.true)

pub overflow_sub-result-2 : goal.overflow_sub-result-2
overflow_sub-result-2 c = leading_le 64 (c.args.n - 1)

pub returns : goal.returns
returns c = sym (halvings-leading 64 _ (omega arith) (omega arith))
