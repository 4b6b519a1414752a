-- `blocks::add_pairs` meets its contract: the pairs below l are added. Assumes nothing.
use Prim.Native.Nat.{◌+◌, ◌*◌, ◌-◌, ◌≤◌}
use lib.ListN.{length}
use Rattle.summed_product.specs.Terms.{Added}
use Rattle.blocks.specs.Blocks.{blocks_of, pairs_sum}
use mathlib.Core.Path.{◌≡◌}
use Rattle.blocks.proofs.add_pairs.Given as goal

abbrev pub invariant-loop-l : goal.invariant-loop-l
invariant-loop-l l =
    (l.from ≤ l.l) × (l.l - l.from ≤ l.to - l.from) × (length l.sums ≡ length l.initial.sums) × (length l.high ≡ length l.initial.high)
    × Added l.n ((l.l - l.from) * (l.a.length + 8)) l.initial.sums l.sums l.initial.high l.high (pairs_sum (blocks_of l.a l.left) (blocks_of l.b l.right) l.j l.from l.l l.low)

abbrev pub decreases-loop-l : goal.decreases-loop-l
decreases-loop-l l = l.to - l.l
