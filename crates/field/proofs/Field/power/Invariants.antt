-- `Field::power` meets its contract: r b^k stays a^e modulo p. Assumes nothing.
use Prim.Native.Nat.{◌*◌, ◌^◌, ◌%◌, ◌<◌}
use mathlib.Core.Path.{◌≡◌}
use Rattle.field.proofs.Field.power.Given as goal

abbrev pub invariant-loop-k : goal.invariant-loop-k
invariant-loop-k l = (l.r < l.self.modulus) × ((l.r * l.b ^ l.k) % l.self.modulus ≡ (l.a ^ l.e) % l.self.modulus)

abbrev pub decreases-loop-k : goal.decreases-loop-k
decreases-loop-k l = l.k
