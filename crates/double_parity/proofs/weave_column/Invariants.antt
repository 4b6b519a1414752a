-- `double_parity::weave_column` meets its contract: after j turns the first j places are written. Assumes nothing.
use Prim.Native.Nat.{◌-◌}
use Rattle.buffer.specs.Filling.{Filling}
use Rattle.double_parity.specs.Weave.{column, woven_plane}
use Rattle.double_parity.proofs.weave_column.Given as goal

abbrev pub invariant-loop-j : goal.invariant-loop-j
invariant-loop-j l = Filling (column (woven_plane l.p l.t l.even l.odd l.sums) l.i) l.at l.t.rows l.initial.z l.z l.j

abbrev pub decreases-loop-j : goal.decreases-loop-j
decreases-loop-j l = l.t.rows - l.j
