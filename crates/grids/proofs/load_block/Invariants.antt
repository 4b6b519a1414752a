-- `grids::load_block` meets its contract: after k turns the first k places are written. Assumes nothing.
use Prim.Native.Nat.{◌-◌}
use Rattle.buffer.specs.Filling.{Filling}
use Rattle.grids.specs.Grid.{block_place}
use Rattle.grids.proofs.load_block.Given as goal

abbrev pub invariant-loop-k : goal.invariant-loop-k
invariant-loop-k l = Filling (block_place l.p l.n l.w l.at l.inner) l.t l.end l.initial.into l.into l.k

abbrev pub decreases-loop-k : goal.decreases-loop-k
decreases-loop-k l = l.end - l.k
