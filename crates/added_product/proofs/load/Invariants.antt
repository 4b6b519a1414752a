-- `added_product::load` meets its contract: after i turns the first i places are written. Assumes nothing.
use Prim.Native.Nat.{◌-◌}
use Rattle.buffer.specs.Filling.{Filling}
use Rattle.schoolbook.specs.ByRows.{residue_at}
use Rattle.added_product.proofs.load.Given as goal

abbrev pub invariant-loop-i : goal.invariant-loop-i
invariant-loop-i l = Filling (residue_at l.p l.x) 0 l.n l.initial.z l.z l.i

abbrev pub decreases-loop-i : goal.decreases-loop-i
decreases-loop-i l = l.n - l.i
