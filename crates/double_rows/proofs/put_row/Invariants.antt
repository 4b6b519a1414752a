-- `double_rows::put_row` meets its contract: after i turns the first i places are written. Assumes nothing.
use Prim.Native.Nat.{◌-◌}
use Rattle.buffer.specs.Filling.{Filling}
use Rattle.double_rows.specs.Places.{place_of}
use Rattle.double_rows.proofs.put_row.Given as goal

abbrev pub invariant-loop-i : goal.invariant-loop-i
invariant-loop-i l =
    Filling (place_of l.p l.opposite l.turned l.half l.rest l.count l.even l.odd l.j) l.t l.r l.initial.w l.w l.i

abbrev pub decreases-loop-i : goal.decreases-loop-i
decreases-loop-i l = l.r - l.i
