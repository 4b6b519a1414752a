-- `double_rows::put` meets its contract: the first j rows are written. Assumes nothing.
use Prim.Native.Nat.{◌-◌, ◌≤◌}
use lib.ListN.{length}
use lib.Seq.{sets}
use Rattle.definition.specs.KinoshitaLi.{plane}
use Rattle.double_rows.specs.Places.{place_of}
use mathlib.Core.Path.{◌≡◌}
use Rattle.double_rows.proofs.put.Given as goal

abbrev pub invariant-loop-j : goal.invariant-loop-j
invariant-loop-j l =
    (l.j ≤ l.count) × (length l.w ≡ length l.initial.w) × (l.w ≡ sets l.initial.w l.t (plane l.r l.j (place_of l.p l.opposite l.turned l.half l.rest l.count l.even l.odd)))

abbrev pub decreases-loop-j : goal.decreases-loop-j
decreases-loop-j l = l.count - l.j
