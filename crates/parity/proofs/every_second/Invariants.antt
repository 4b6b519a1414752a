-- `parity::every_second` meets its contract. Assumes nothing.
use Prim.Native.Nat.{◌-◌}
use lib.ListN.{take}
use Rattle.buffer.specs.Filling.{Filling}
use Rattle.parity.specs.Halves.{second}
use Rattle.parity.proofs.every_second.Given as goal

abbrev pub invariant-loop-i : goal.invariant-loop-i
invariant-loop-i l = Filling (second l.from (take l.n l.x)) 0 l.count l.initial.u l.u l.i

abbrev pub decreases-loop-i : goal.decreases-loop-i
decreases-loop-i l = l.count - l.i
