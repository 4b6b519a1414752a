-- `ranged::power_of_two` meets its contract: the shift loses no bit. Assumes nothing.
use native.Mathlib.Nat.{one-mul}
use lib.Pow.{shl_exact}
use native.Mathlib.Omega.{arith}
use Prim.Native.Nat.{◌^◌}
use mathlib.Core.Path.{◌∙◌}
use Rattle.ranged.proofs.power_of_two.Goals as goal

pub returns : goal.returns
returns c = shl_exact {a = 1} 1 c.args.level 64 (omega arith) (omega arith) ∙ one-mul (2 ^ c.args.level)
