-- `division::inverse` meets its contract. The loop's invariant: below k the inverse is written. The measure is what is left of m.
-- Assumes nothing.
use Prim.Native.Nat.{◌-◌, ◌<◌, ◌≤◌}
use Rattle.division.specs.Doubling.{Inverted}
use Rattle.division.proofs.inverse.Given as goal

abbrev pub invariant-loop-k : goal.invariant-loop-k
invariant-loop-k l = (0 < l.k) × (l.k ≤ l.m) × Inverted l.p l.m l.c l.k l.initial.w l.w

abbrev pub decreases-loop-k : goal.decreases-loop-k
decreases-loop-k l = l.m - l.k
