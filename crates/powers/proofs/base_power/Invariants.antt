-- `powers::base_power` meets its contract: before each turn all digits but the last `left` are taken. Assumes nothing.
use Rattle.powers.specs.Binary.{Running}
use Rattle.powers.proofs.base_power.Given as goal

abbrev pub invariant-loop-left : goal.invariant-loop-left
invariant-loop-left l = Running l.p l.n l.b l.initial.w l.w l.left l.due l.weight.places

abbrev pub decreases-loop-left : goal.decreases-loop-left
decreases-loop-left l = l.left
