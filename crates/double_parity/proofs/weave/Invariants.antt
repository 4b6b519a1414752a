-- `double_parity::weave` meets its contract: the first l blocks are written. Assumes nothing.
use Prim.Native.Nat.{◌-◌, ◌≤◌}
use lib.ListN.{length}
use lib.Seq.{sets}
use mathlib.Core.Path.{◌≡◌}
use Rattle.definition.specs.KinoshitaLi.{plane}
use Rattle.grids.specs.Parts.{facing}
use Rattle.double_parity.specs.Weave.{woven_plane}
use Rattle.double_parity.proofs.weave.Given as goal

abbrev pub invariant-loop-l : goal.invariant-loop-l
invariant-loop-l l =
    (l.l ≤ l.b.count) × (length l.z ≡ length l.initial.z) × (l.z ≡ sets l.initial.z 0 (plane l.b.length l.l (facing l.t.turned (woven_plane l.p l.t l.even l.odd l.sums))))

abbrev pub decreases-loop-l : goal.decreases-loop-l
decreases-loop-l l = l.b.count - l.l
