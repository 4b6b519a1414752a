-- `remainder::folded` meets its contract: every step fits 64 bits. Assumes nothing.
use Rattle.std.proofs.Common.{ℕ, ◌-◌, ◌*◌, ◌/◌, ◌%◌, ◌^◌, ◌<◌, ◌≤◌, mod-lt, arith}
use Rattle.remainder.specs.Division.{first-term, second-term, folded_remainder}
use Rattle.remainder.proofs.folded.Goals as goal
use Rattle.remainder.proofs.folded.Goals.{Start}

second : (c : Start) → c.args.high / 2 ^ 32 * c.args.second ≤ (2 ^ 14 - 1) * (2 ^ 32 - 1)
second c = rw c.requires.3 (second-term c.args.m c.args.high c.requires.0 c.requires.1 c.requires.4)

first : (c : Start) → c.args.high % 2 ^ 32 * c.args.first ≤ (2 ^ 32 - 1) * 2 ^ 31
first c = rw c.requires.2 (first-term c.args.m c.args.high c.requires.0 c.requires.1)

below : (c : Start) (x : ℕ) → x % c.args.m < 2 ^ 32
below c x = omega (arith, mod-lt x {m = c.args.m} c.requires.0)

pub overflow_mul-result : goal.overflow_mul-result
overflow_mul-result c = omega (arith, second c)

pub overflow_mul-result-2 : goal.overflow_mul-result-2
overflow_mul-result-2 c = omega (arith, first c)

pub overflow_add-result : goal.overflow_add-result
overflow_add-result c = omega (arith, first c, second c)

pub overflow_add-result-2 : goal.overflow_add-result-2
overflow_add-result-2 c = omega (arith, first c, second c)

pub overflow_cast-result : goal.overflow_cast-result
overflow_cast-result c = record { fits = below c _ }

pub returns : goal.returns
returns c = rw (c.requires.2, c.requires.3) (folded_remainder c.args.m c.args.high c.args.low)
