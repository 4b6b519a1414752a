-- `coefficients::add_from` meets its contract: before each turn the places from `first` up to k are written, and none that is still to be
-- read. Assumes nothing.
use Prim.Native.Nat.{◌-◌, ◌≤◌}
use mathlib.Core.Path.{◌≡◌}
use lib.ListN.{length}
use Rattle.coefficients.specs.From.{added_from}
use Rattle.coefficients.proofs.add_from.Given as goal

abbrev pub invariant-loop-k : goal.invariant-loop-k
invariant-loop-k l =
    (l.first ≤ l.k) × (l.k ≤ l.n) × (length l.w ≡ length l.initial.w) × (l.w ≡ added_from l.p l.n l.a l.b l.t l.first l.initial.w l.k)

abbrev pub decreases-loop-k : goal.decreases-loop-k
decreases-loop-k l = l.n - l.k
