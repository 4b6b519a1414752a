-- `powers::further_digits` meets its contract: b is below 2^32, so its first digit is one of 32. Assumes nothing.
use native.Mathlib.Omega.{arith}
use lib.Count.{leading_top}
use Rattle.powers.proofs.further_digits.Goals as goal

pub overflow_sub-result : goal.overflow_sub-result
overflow_sub-result c = omega (arith, (leading_top 32 c.args.b c.requires.0 (omega (arith, c.requires.1))).1)
