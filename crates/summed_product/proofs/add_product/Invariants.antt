-- `summed_product::add_product` meets its contract: the rows before i are added. Assumes nothing.
use Prim.Native.Nat.{◌+◌, ◌-◌, ◌<◌, ◌≤◌}
use lib.ListN.{length}
use Rattle.summed_product.specs.Terms.{Added, rows_before}
use mathlib.Core.Path.{◌≡◌}
use Rattle.summed_product.proofs.add_product.Given as goal

abbrev pub invariant-loop-i : goal.invariant-loop-i
invariant-loop-i l =
    (l.initial.i ≤ l.i) × (l.i - l.initial.i ≤ l.a.count + 7) × (l.low < l.i + 7 + l.b.count) × (length l.sums ≡ length l.initial.sums) × (length l.high ≡ length l.initial.high)
    × Added l.n (l.i - l.initial.i) l.initial.sums l.sums l.initial.high l.high (rows_before l.x l.a l.y l.b l.low l.i)

abbrev pub decreases-loop-i : goal.decreases-loop-i
decreases-loop-i l = l.end - l.i
