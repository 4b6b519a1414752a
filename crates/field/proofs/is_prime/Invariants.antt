-- `field::is_prime` meets its contract: before each turn the numbers below d are tried, and d is number i of the wheel.
-- Assumes nothing.
use Prim.Native.Nat.{◌-◌}
use Rattle.field.specs.Wheel.{Wheel}
use Rattle.field.proofs.is_prime.Given as goal

abbrev pub invariant-loop-p : goal.invariant-loop-p
invariant-loop-p l = Wheel l.p l.d l.i

abbrev pub decreases-loop-p : goal.decreases-loop-p
decreases-loop-p l = l.p - l.d
