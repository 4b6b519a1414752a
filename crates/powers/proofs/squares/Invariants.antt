-- `powers::squares` meets its contract: after i powers, those are as the contract says. Assumes nothing.
use Rattle.powers.specs.Kept.{Squares}
use Prim.Native.Nat.{◌-◌, ◌<◌, ◌≤◌}
use Rattle.powers.proofs.squares.Given as goal

abbrev pub invariant-loop-i : goal.invariant-loop-i
invariant-loop-i l = (0 < l.i) × (l.i ≤ l.rounds) × Squares l.p l.n l.i l.initial.w l.w l.weight.places

abbrev pub decreases-loop-i : goal.decreases-loop-i
decreases-loop-i l = l.rounds - l.i
