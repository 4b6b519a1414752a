-- `powers::squares` meets its contract: after i powers, those are as the contract says. Assumes nothing.
use borrow.Author.Rules.{rules}
use Rattle.powers.specs.Kept.{place_bound, squares-first, squares-next, squares-operands}
use native.Mathlib.Omega.{arith}
use Prim.Native.Nat.{◌+◌, ◌-◌}
use mathlib.Core.Path.{◌≡◌}
use Rattle.powers.proofs.squares.Goals as goal

pub loop-i-init : goal.loop-i-init
loop-i-init c = (search rules, search rules, rw c.none-weight.ensures (squares-first _ _ _))

pub overflow_mul-i : goal.overflow_mul-i
overflow_mul-i c = record { fits = omega (arith, place_bound c.requires.0 c.loop-i.i (omega arith)) }

pub overflow_mul-i-in-loop-i : goal.overflow_mul-i-in-loop-i
overflow_mul-i-in-loop-i c = record { fits = omega (arith, place_bound c.requires.0 (c.loop-i.i + 1) (omega arith)) }

pub step_square-places-requires : goal.step_square-places-requires
step_square-places-requires c =
    squares-operands c.requires.0 c.loop-i.invariant.2.within.size c.loop-i.invariant.0 c.loop-i-test.true

pub plus-weight-requires : goal.plus-weight-requires
plus-weight-requires c =
    omega (arith, place_bound c.requires.0 (c.loop-i.i - 1) (omega arith), c.step_square-places.ensures.places)

pub loop-i-preserved : goal.loop-i-preserved
loop-i-preserved c = (
  search rules,
  search rules,
  rw c.plus-weight.ensures
      (squares-next c.requires.0 c.loop-i.invariant.0 c.loop-i-test.true c.loop-i.invariant.2
      c.step_square-places.ensures),
)

pub shape_of-w : goal.shape_of-w
shape_of-w c = c.loop-i.invariant.2.within.size

pub returns : goal.returns
returns c =
    let all : c.loop-i.i ≡ c.args.rounds = omega arith in
    rw all at c.loop-i.invariant.2
