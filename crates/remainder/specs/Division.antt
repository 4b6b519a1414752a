-- A remainder by one division: 2^32 and 2^64 are replaced by their remainders modulo m.
--
--   first_small           2^32 modulo m is at most 2^31
--   second-power          2^64 modulo m from 2^32 modulo m
--   first-term second-term   the parts of the sum with 2^32 and 2^64 replaced: it fits 64 bits
--   folded_remainder      and has the remainder of 2^32 high + low
-- Assumes nothing.
use Rattle.std.specs.Prelude.{◌≡◌, ℕ, ◌+◌, ◌-◌, ◌*◌, ◌/◌, ◌%◌, ◌^◌, ◌<◌, ◌≤◌}
use Rattle.std.proofs.Math.Decide.{dec_le}
use Rattle.std.proofs.Math.Nat.{add-mod, mod-add-mod, mod-eq-sub-mod, mod-le}
use Rattle.std.proofs.Common.{mod-lt, mul-le-mul, arith}
use Rattle.algebra.specs.Remainder.{mod-mul-mod, mul-mod-mod}

pub first_small : (m : ℕ) → 0 < m → m < 2 ^ 32 → 2 ^ 32 % m ≤ 2 ^ 31
first_small m l h = at (dec_le m (2 ^ 31))
  where
    at : Dec (m ≤ 2 ^ 31) → 2 ^ 32 % m ≤ 2 ^ 31
    at (yes b) = omega (arith, mod-lt (2 ^ 32) l)
    at (no b) = rw (mod-eq-sub-mod {n = 2 ^ 32} {m = m} (omega arith)) (omega (arith, mod-le (2 ^ 32 - m) m))

pub second-power : (m : ℕ) → (2 ^ 32 % m) * (2 ^ 32 % m) % m ≡ 2 ^ 64 % m
second-power m = rw (mod-mul-mod, mul-mod-mod)

module _ (m high : ℕ) (l : 0 < m) (h : m < 2 ^ 32) where
  pub second-term : high < 2 ^ 46 → high / 2 ^ 32 * (2 ^ 64 % m) ≤ (2 ^ 14 - 1) * (2 ^ 32 - 1)
  second-term b = mul-le-mul {n₂ = 2 ^ 14 - 1} {m₂ = 2 ^ 32 - 1} (omega arith) (omega (arith, mod-lt (2 ^ 64) l))

  pub first-term : high % 2 ^ 32 * (2 ^ 32 % m) ≤ (2 ^ 32 - 1) * 2 ^ 31
  first-term = mul-le-mul {n₂ = 2 ^ 32 - 1} {m₂ = 2 ^ 31} (omega arith) (first_small m l h)

pub folded_remainder : (m high low : ℕ)
    → (high / 2 ^ 32 * (2 ^ 64 % m) + high % 2 ^ 32 * (2 ^ 32 % m) + low) % m ≡ (2 ^ 32 * high + low) % m
folded_remainder m high low =
    let whole : high / 2 ^ 32 * 2 ^ 64 + high % 2 ^ 32 * 2 ^ 32 ≡ 2 ^ 32 * high = omega arith in
    rw (
      ← mod-add-mod (high / 2 ^ 32 * (2 ^ 64 % m) + high % 2 ^ 32 * (2 ^ 32 % m)) m,
      add-mod (high / 2 ^ 32 * (2 ^ 64 % m)) (high % 2 ^ 32 * (2 ^ 32 % m)),
      mul-mod-mod (high / 2 ^ 32),
      mul-mod-mod (high % 2 ^ 32),
      ← add-mod,
      mod-add-mod,
      whole,
    )
