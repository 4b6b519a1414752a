-- `powers::further_ones` meets its contract: the first digit is 1. Assumes nothing.
use native.Mathlib.Omega.{arith}
use lib.Count.{ones-le}
use Rattle.powers.specs.Digits.{ones_positive}
use Rattle.powers.proofs.further_ones.Goals as goal

pub overflow_sub-result : goal.overflow_sub-result
overflow_sub-result c = ones_positive c.args.b c.requires.0 (omega (arith, c.requires.1))

pub overflow_cast-result-2 : goal.overflow_cast-result-2
overflow_cast-result-2 c = omega (arith, ones-le 7 c.args.b (omega (arith, c.requires.1)))
