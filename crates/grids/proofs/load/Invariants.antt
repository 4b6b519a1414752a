-- `grids::load` meets its contract: the first l blocks are read. Assumes nothing.
use Prim.Native.Nat.{◌+◌, ◌-◌, ◌≤◌}
use lib.ListN.{length}
use lib.Seq.{sets}
use Rattle.definition.specs.KinoshitaLi.{plane}
use Rattle.grids.specs.Grid.{grid_place}
use mathlib.Core.Path.{◌≡◌}
use Rattle.grids.proofs.load.Given as goal

abbrev pub invariant-loop-l : goal.invariant-loop-l
invariant-loop-l l =
    (l.l ≤ l.g.count) × (length l.into ≡ length l.initial.into) × (l.into ≡ sets l.initial.into 8 (plane (l.g.length + 8) l.l (grid_place l.p l.w l.g)))

abbrev pub decreases-loop-l : goal.decreases-loop-l
decreases-loop-l l = l.g.count - l.l
