-- `convolution::product_coefficient` meets its contract: the two halves hold c and the terms summed so far. Assumes nothing.
use Prim.Native.Nat.{◌+◌, ◌-◌, ◌≤◌}
use Rattle.definition.specs.Lists.{coefficient}
use Rattle.definition.specs.Substitution.{product_term}
use Rattle.convolution.specs.Halves.{Halves}
use Rattle.convolution.proofs.product_coefficient.Given as goal

abbrev pub invariant-loop-i : goal.invariant-loop-i
invariant-loop-i l =
    (l.i ≤ l.k + 1) × Halves l.c (product_term (coefficient l.x) (coefficient l.y) l.k) l.i l.low l.high

abbrev pub decreases-loop-i : goal.decreases-loop-i
decreases-loop-i l = l.k + 1 - l.i
