-- `block_product::result` meets its contract: the places below k are there. Assumes nothing.
use Prim.Native.Nat.{◌-◌, ◌≤◌}
use lib.ListN.{length}
use lib.Seq.{sets}
use Rattle.definition.specs.Lists.{tabulate}
use Rattle.blocks.specs.Blocks.{blocks_of}
use Rattle.block_product.specs.Results.{window_at}
use mathlib.Core.Path.{◌≡◌}
use Rattle.block_product.proofs.result.Given as goal

abbrev pub invariant-loop-k : goal.invariant-loop-k
invariant-loop-k l =
    (l.k ≤ l.n) × (length l.z ≡ length l.initial.z) × (length l.sums ≡ length l.initial.sums) × (length l.high ≡ length l.initial.high)
    × (l.z ≡ sets l.initial.z 0 (tabulate l.k (window_at l.p (blocks_of l.a l.left) (blocks_of l.b l.right) l.j l.low)))

abbrev pub decreases-loop-k : goal.decreases-loop-k
decreases-loop-k l = l.n - l.k
