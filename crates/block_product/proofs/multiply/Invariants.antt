-- `block_product::multiply` meets its contract: the first k results are there. Assumes nothing.
use Prim.Native.Nat.{◌+◌, ◌-◌, ◌≤◌}
use lib.ListN.{length}
use lib.Seq.{sets}
use Rattle.definition.specs.KinoshitaLi.{plane}
use Rattle.blocks.specs.Blocks.{blocks_of}
use Rattle.block_product.specs.Results.{window_at}
use mathlib.Core.Path.{◌≡◌}
use Rattle.block_product.proofs.multiply.Given as goal

abbrev pub invariant-loop-k : goal.invariant-loop-k
invariant-loop-k l =
    (l.k ≤ l.t.count) × (length l.z ≡ length l.initial.z) × (length l.sums ≡ 128) × (length l.high ≡ 128)
    × (l.z ≡ sets l.initial.z 0 (plane l.t.length l.k (λ i. window_at l.p (blocks_of l.a l.left) (blocks_of l.b l.right) (l.first + i) l.low)))

abbrev pub decreases-loop-k : goal.decreases-loop-k
decreases-loop-k l = l.t.count - l.k
