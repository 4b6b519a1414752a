-- An exact sum of 64-bit numbers whose low and high 32-bit halves are summed apart.
--
--   carried            the remainder of 2^32 high + low, with what low has above its 32 bits carried to high
--   Halves c f i low high   2^32 high + low is c + f(0) + .. + f(i - 1), and both halves are small
--   halves-first       it holds before the first term
--   halves-next        and after one more
--   halves_total       the sum
--   halves-low halves-high   while there are at most 2^30 terms, both halves stay below 2^63
-- Assumes nothing.
use Rattle.std.specs.Prelude.{ℕ, ◌+◌, ◌-◌, ◌*◌, ◌/◌, ◌%◌, ◌^◌, ◌<◌, ◌≤◌, ◌≡◌}
use Rattle.std.proofs.Math.Nat.{mod-add-mod}
use Rattle.std.proofs.Math.Numerals.{add-one}
use Rattle.std.proofs.Common.{arith}
use Rattle.algebra.specs.Remainder.{mod-mul-mod}
use Rattle.definition.specs.Lists.{sum}

pub carried : (p high low : ℕ)
    → ((high + low / 2 ^ 32) % p * 2 ^ 32 + low % 2 ^ 32) % p ≡ (2 ^ 32 * high + low) % p
carried p high low =
    let whole : (high + low / 2 ^ 32) * 2 ^ 32 + low % 2 ^ 32 ≡ 2 ^ 32 * high + low = omega arith in
    rw (← mod-add-mod ((high + low / 2 ^ 32) % p * 2 ^ 32) p, mod-mul-mod (high + low / 2 ^ 32), mod-add-mod, whole)

pub data Halves (c : ℕ) (f : ℕ → ℕ) (i low high : ℕ) : Type 0 where
  halves : 2 ^ 32 * high + low ≡ c + sum i f → low ≤ (i + 1) * (2 ^ 32 - 1) → high ≤ i * (2 ^ 32 - 1) → Halves c f i low high

pub halves-first : {c : ℕ} {f : ℕ → ℕ} → c < 2 ^ 32 → Halves c f 0 c 0
unfolding sum
halves-first h = halves (omega arith) (omega arith) (omega arith)

module _ {c : ℕ} {f : ℕ → ℕ} {i low high : ℕ} where
  pub halves-next : Halves c f i low high → (z : ℕ) → z ≡ f i → z ≤ (2 ^ 32 - 1) * (2 ^ 32 - 1)
      → Halves c f (i + 1) (low + z % 2 ^ 32) (high + z / 2 ^ 32)
  unfolding sum
  halves-next (halves total l h) z e b = halves (rw add-one (omega arith)) (omega arith) (omega arith)

  pub halves_total : Halves c f i low high → 2 ^ 32 * high + low ≡ c + sum i f
  halves_total (halves total l h) = total

  pub halves-low : Halves c f i low high → i ≤ 2 ^ 30 → low < 2 ^ 63
  halves-low (halves total l h) b = omega arith

  pub halves-high : Halves c f i low high → i ≤ 2 ^ 30 → high < 2 ^ 63
  halves-high (halves total l h) b = omega arith
