-- `newton_step::subtract` meets its contract: after k turns the first k places are written. Assumes nothing.
use borrow.Author.Rules.{rules}
use native.Mathlib.Omega.{arith}
use Prim.Native.Nat.{◌-◌}
use lib.ListN.{length}
use Rattle.buffer.specs.Filling.{Filling, filling_first}
use Rattle.buffer.specs.Segments.{segment}
use Rattle.newton_step.specs.Newton.{difference_at}
use Rattle.newton_step.specs.Step.{subtract_last, subtract_next}
use Rattle.newton_step.proofs.subtract.Given as goal

abbrev pub invariant-loop-k : goal.invariant-loop-k
invariant-loop-k l = Filling (difference_at l.p l.initial.h (segment l.w l.t (length l.initial.h))) 0 (length l.initial.h) l.initial.h l.h l.k

abbrev pub decreases-loop-k : goal.decreases-loop-k
decreases-loop-k l = length l.initial.h - l.k
