-- `double_parity::fold_row` meets its contract: after i turns the first i places are written. Assumes nothing.
use Prim.Native.Nat.{◌-◌}
use Rattle.buffer.specs.Filling.{Filling}
use Rattle.grids.specs.Parts.{grid_at}
use Rattle.double_parity.specs.Halves.{folded}
use Rattle.double_parity.proofs.fold_row.Given as goal

abbrev pub invariant-loop-i : goal.invariant-loop-i
invariant-loop-i l = Filling (folded l.p (grid_at l.g l.w) l.j) l.t l.n l.initial.s l.s l.i

abbrev pub decreases-loop-i : goal.decreases-loop-i
decreases-loop-i l = l.n - l.i
