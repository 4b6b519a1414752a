-- `powers::base_power` meets its contract: before each turn all digits but the last `left` are taken. Assumes nothing.
use native.Mathlib.Omega.{arith}
use Prim.Native.Nat.{suc, ◌+◌, ◌-◌}
use lib.Count.{ones, ones-le}
use mathlib.Core.Path.{◌≡◌, refl}
use Rattle.powers.specs.Binary.{
  PowerOperands,
  Running,
  copy_operands,
  operands_copied,
  operands-length,
  running-due,
  running-few,
  running-first,
  running_last,
  running-next,
  running-small,
}
use Rattle.powers.proofs.base_power.Goals as goal
use Rattle.powers.proofs.base_power.Goals.{After-copy_part, In-loop-left}

-- g is copied before the first turn

-- the number of products that are due

due : (c : After-copy_part) → c.further_digits-left.result + c.further_ones.result
    ≡ c.further_digits-left.result + (ones c.args.b - 1)
due c = omega (arith, c.further_ones.ensures)

operands : (c : After-copy_part) → PowerOperands c.args.p c.args.n 1 c.copy_part.new.w
operands c =
    operands_copied c.requires.0 c.requires.1 c.further_digits-left.ensures (due c) c.running_place-start.ensures
    c.copy_part.ensures

-- in a turn a digit is left

before-turn : (c : In-loop-left)
    → (Running c.args.p c.args.n c.args.b c.copy_part.new.w c.loop-left.w (suc (c.loop-left.left - 1)) c.loop-left.due
    c.loop-left.weight.places)
before-turn c =
    let e : c.loop-left.left ≡ suc (c.loop-left.left - 1) = omega arith in
    rw e at c.loop-left.invariant

pub overflow_add-due : goal.overflow_add-due
overflow_add-due c =
    let b = c.args.b in
    record { fits = omega (arith, c.further_digits-left.ensures, c.further_ones.ensures, ones-le 7 b (omega (arith, c.requires.1))) }

pub copy_part-requires : goal.copy_part-requires
copy_part-requires c =
    rw c.running_place-start.ensures (copy_operands c.requires.0 _)

pub loop-left-init : goal.loop-left-init
loop-left-init c =
    rw c.none-weight.ensures
    (running-first c.requires.0 c.requires.1 c.further_digits-left.ensures (due (goal.at.loop-left-init c).After-copy_part) c.running_place-start.ensures
    c.copy_part.ensures)

pub overflow_shr-digit : goal.overflow_shr-digit
overflow_shr-digit c = omega (arith, running-few (operands (goal.at.overflow_shr-digit c).After-copy_part) c.requires.1 (before-turn c))

pub take_digit-products-requires : goal.take_digit-products-requires
take_digit-products-requires c =
    let pre = operands (goal.at.take_digit-products-requires c).After-copy_part in
    (operands-length c.loop-left.invariant.within.size pre, omega arith, running-due pre c.requires.1 (before-turn (goal.at.take_digit-products-requires c).In-loop-left))

pub plus-weight-requires : goal.plus-weight-requires
plus-weight-requires c =
    omega (arith, running-small (operands (goal.at.plus-weight-requires c).After-copy_part) c.requires.1 (before-turn (goal.at.plus-weight-requires c).In-loop-left), c.take_digit-products.ensures.sum)

pub overflow_sub-due : goal.overflow_sub-due
overflow_sub-due c =
    omega (arith, running-due (operands (goal.at.overflow_sub-due c).After-copy_part) c.requires.1 (before-turn (goal.at.overflow_sub-due c).In-loop-left))

pub loop-left-preserved : goal.loop-left-preserved
loop-left-preserved c =
    rw c.plus-weight.ensures (running-next (operands (goal.at.loop-left-preserved c).After-copy_part) c.requires.1 (before-turn (goal.at.loop-left-preserved c).In-loop-left) refl c.take_digit-products.ensures)

pub returns : goal.returns
returns c =
    let none : c.loop-left.left ≡ 0 = omega arith in
    running_last c.requires.0 c.requires.1 c.further_digits-left.ensures (due (goal.at.returns c).After-copy_part) c.running_place-start.ensures
    c.copy_part.ensures (rw none at c.loop-left.invariant)
