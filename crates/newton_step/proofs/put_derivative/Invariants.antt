-- `newton_step::put_derivative` meets its contract: after k turns the first k places are written. Assumes nothing.
use borrow.Author.Rules.{rules}
use native.Mathlib.Omega.{arith}
use Prim.Native.Nat.{◌-◌}
use Rattle.buffer.specs.Filling.{Filling, filling_first, filling_last, filling_next}
use Rattle.definition.specs.Lists.{coefficient}
use Rattle.newton_step.specs.Newton.{derivative, derivative_at}
use Rattle.newton_step.proofs.put_derivative.Given as goal

abbrev pub invariant-loop-k : goal.invariant-loop-k
invariant-loop-k l = Filling (derivative_at l.p l.h) l.t l.n l.initial.w l.w l.k

abbrev pub decreases-loop-k : goal.decreases-loop-k
decreases-loop-k l = l.n - l.k
