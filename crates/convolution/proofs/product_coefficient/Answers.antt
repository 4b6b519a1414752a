-- `convolution::product_coefficient` meets its contract: the two halves hold c and the terms summed so far. Assumes nothing.
use borrow.Author.Rules.{rules}
use native.Mathlib.Omega.{arith}
use Prim.Native.Nat.{ℕ, suc, ◌*◌, ◌-◌, ◌≤◌, ◌^◌}
use mathlib.Core.Path.{◌≡◌, ◌∙◌}
use Rattle.definition.specs.Lists.{coefficient}
use Rattle.definition.specs.Substitution.{product, product_term}
use Rattle.convolution.specs.Halves.{halves-first, halves-next, halves_total, halves-low, halves-high}
use Rattle.residue.specs.Residue.{product-below}
use Rattle.convolution.proofs.product_coefficient.Goals as goal
use Rattle.convolution.proofs.product_coefficient.Goals.{After-wide-in-loop-i, At-loop-i}

abbrev term : goal.After-wide-in-loop-i → ℕ
term c = c.wide.result * c.wide-in-loop-i.result

-- the product of the two places read fits 64 bits
fits : (c : After-wide-in-loop-i) → term c ≤ (2 ^ 32 - 1) * (2 ^ 32 - 1)
fits c =
    rw (c.wide.ensures, c.wide-in-loop-i.ensures)
    (product-below (c.shared_slice_known-in-loop-i-1.given c.loop-i.i).fits
    (c.shared_slice_known-in-loop-i-2-1.given (c.args.k - c.loop-i.i)).fits)

-- so few terms are summed that both halves stay small
few : (c : At-loop-i) → c.loop-i.i ≤ 2 ^ 30
few c = omega (arith, c.requires)

pub loop-i-init : goal.loop-i-init
loop-i-init c = (omega arith, rw c.wide-low.ensures (halves-first c.ranges.c.fits))

pub overflow_mul-z : goal.overflow_mul-z
overflow_mul-z c = omega (arith, fits (goal.at.overflow_mul-z c).After-wide-in-loop-i)

pub overflow_add-low : goal.overflow_add-low
overflow_add-low c = omega (arith, halves-low c.loop-i.invariant.1 (few (goal.at.overflow_add-low c).At-loop-i))

pub overflow_add-high : goal.overflow_add-high
overflow_add-high c = omega (arith, fits (goal.at.overflow_add-high c).After-wide-in-loop-i, halves-high c.loop-i.invariant.1 (few (goal.at.overflow_add-high c).At-loop-i))

pub overflow_add-i : goal.overflow_add-i
overflow_add-i c = omega (arith, few (goal.at.overflow_add-i c).At-loop-i)

pub loop-i-preserved : goal.loop-i-preserved
unfolding product_term coefficient
loop-i-preserved c =
    let after = (goal.at.loop-i-preserved c).After-wide-in-loop-i in
    (search rules, halves-next c.loop-i.invariant.1 (term after) (cc (c.wide.ensures, c.wide-in-loop-i.ensures)) (fits after))

pub remainder-requires : goal.remainder-requires
remainder-requires c = (search rules, halves-high c.loop-i.invariant.1 (few (goal.at.remainder-requires c).At-loop-i))

pub returns : goal.returns
unfolding product
returns c =
    let all : c.loop-i.i ≡ suc c.args.k = omega arith in
    c.remainder.ensures ∙ rw (halves_total c.loop-i.invariant.1, all)
