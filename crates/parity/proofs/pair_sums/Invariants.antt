-- `parity::pair_sums` meets its contract. Assumes nothing.
use Prim.Native.Nat.{◌-◌}
use lib.ListN.{take}
use Rattle.buffer.specs.Filling.{Filling}
use Rattle.parity.specs.Halves.{neighbour_sum}
use Rattle.parity.proofs.pair_sums.Given as goal

abbrev pub invariant-loop-i : goal.invariant-loop-i
invariant-loop-i l = Filling (neighbour_sum l.p (take l.n l.x)) 0 l.count l.initial.u l.u l.i

abbrev pub decreases-loop-i : goal.decreases-loop-i
decreases-loop-i l = l.count - l.i
