-- `division::numerator` meets its contract. Assumes nothing.
use Prim.Native.Nat.{◌-◌}
use lib.ListN.{length}
use mathlib.Core.List.{reverse}
use Rattle.buffer.specs.Filling.{Filling}
use Rattle.definition.specs.Lists.{coefficient}
use Rattle.division.proofs.numerator.Given as goal

abbrev pub invariant-loop-k : goal.invariant-loop-k
invariant-loop-k l = Filling (coefficient (reverse l.f)) l.t (length l.f) l.initial.w l.w l.k

abbrev pub decreases-loop-k : goal.decreases-loop-k
decreases-loop-k l = length l.f - l.k
