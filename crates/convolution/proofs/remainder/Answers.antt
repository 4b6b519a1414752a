-- `convolution::remainder` meets its contract: a remainder modulo p has 32 bits, so that every step fits 64 bits. Assumes nothing.
use native.Mathlib.Nat.{mod-lt}
use native.Mathlib.Omega.{arith}
use Prim.Native.Nat.{ℕ, ◌+◌, ◌/◌, ◌%◌, ◌<◌, ◌^◌}
use Rattle.convolution.specs.Halves.{carried}
use Rattle.convolution.proofs.remainder.Goals as goal
use Rattle.convolution.proofs.remainder.Goals.{After-wide-m}

below : (c : After-wide-m) (x : ℕ) → x % c.wide-m.result < 2 ^ 32
below c x = omega (arith, mod-lt x {m = c.wide-m.result} (omega arith))

pub overflow_mul-result : goal.overflow_mul-result
overflow_mul-result c = omega (arith, below c (c.args.high + c.args.low / 2 ^ 32))

pub overflow_add-result : goal.overflow_add-result
overflow_add-result c = omega (arith, below c (c.args.high + c.args.low / 2 ^ 32))

pub overflow_cast-result : goal.overflow_cast-result
overflow_cast-result c = record { fits = below c _ }

pub returns : goal.returns
returns c = rw c.wide-m.ensures (carried _ _ _)
