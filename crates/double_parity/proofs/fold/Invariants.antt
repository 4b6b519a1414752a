-- `double_parity::fold` meets its contract: the first j rows are written. Assumes nothing.
use Prim.Native.Nat.{◌-◌, ◌≤◌}
use lib.ListN.{length}
use lib.Seq.{sets}
use mathlib.Core.Path.{◌≡◌}
use Rattle.definition.specs.KinoshitaLi.{plane}
use Rattle.grids.specs.Parts.{grid_at}
use Rattle.double_parity.specs.Halves.{folded}
use Rattle.double_parity.proofs.fold.Given as goal

abbrev pub invariant-loop-j : goal.invariant-loop-j
invariant-loop-j l = (l.j ≤ l.g.count) × (length l.s ≡ length l.initial.s) × (l.s ≡ sets l.initial.s 0 (plane l.n l.j (folded l.p (grid_at l.g l.w))))

abbrev pub decreases-loop-j : goal.decreases-loop-j
decreases-loop-j l = l.g.count - l.j
