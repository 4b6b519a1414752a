-- `powers::take_digit` meets its contract: a squaring, and a product with g where the digit is 1. Assumes nothing.
use native.Mathlib.Omega.{arith}
use mathlib.Core.Path.{◌≡◌}
use Rattle.product.specs.Single.{multiplied-within}
use Rattle.powers.specs.Binary.{digit_multiplied, digit_squared, first-operands, second-operands}
use Rattle.powers.proofs.take_digit.Goals as goal
use Rattle.powers.proofs.take_digit.Goals.{Else-digit-eq0}

-- a digit that is not 0 is 1

one : (c : Else-digit-eq0) → c.args.digit ≡ 1
one c = omega (arith, c.if-digit-eq0.false, c.requires.1)

pub step_square-squared-requires : goal.step_square-squared-requires
step_square-squared-requires c =
    first-operands c.requires.0 c.requires.2 c.running_place-from.ensures c.running_place-to.ensures

pub returns-then-digit-eq0 : goal.returns-then-digit-eq0
returns-then-digit-eq0 c =
    digit_squared c.requires.0 c.requires.2 c.running_place-from.ensures c.running_place-to.ensures c.if-digit-eq0.true
    c.step_square-squared.ensures

pub step_multiply-multiplied-requires : goal.step_multiply-multiplied-requires
step_multiply-multiplied-requires c =
    second-operands c.requires.0 c.requires.2 c.running_place-from.ensures c.running_place-to.ensures (one (goal.at.step_multiply-multiplied-requires c).Else-digit-eq0)
    (multiplied-within c.step_square-squared.ensures).size

pub returns : goal.returns
returns c =
    rw c.plus.ensures
    (digit_multiplied c.requires.0 c.requires.2 c.running_place-from.ensures c.running_place-to.ensures (one (goal.at.returns c).Else-digit-eq0)
    c.step_square-squared.ensures c.step_multiply-multiplied.ensures)
