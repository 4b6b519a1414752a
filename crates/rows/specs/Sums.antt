-- Sums kept in two parts: a number modulo 2^64, and a count of 2^32 in it that is a little too small.
--
--   low_part s h           what 2^32 h leaves of a number that is s modulo 2^64
--   low_part_lem              it is the difference that wraps
--   part-whole            with 2^32 h it is s modulo 2^64
--   Small n sums high     n places whose parts are below 2^46
--   remainder_list p n sums high   the remainders of the sums
-- Assumes nothing.
use Rattle.std.specs.Prelude.{◌≡◌, ℕ, ◌+◌, ◌-◌, ◌*◌, ◌%◌, ◌^◌, ◌<◌, ◌≤◌, List, length, slice_index}
use Rattle.std.proofs.Common.{arith}
use Rattle.definition.specs.Lists.{tabulate, coefficient}

-- what 2^32 h leaves of a number that is s modulo 2^64
unfoldable pub low_part : ℕ → ℕ → ℕ
low_part s h = (s + (2 ^ 64 - 2 ^ 32 * h % 2 ^ 64)) % 2 ^ 64

pub low_part_lem : {r s : ℕ} (h : ℕ) → r < 2 ^ 64 → (r + h % 2 ^ 32 * 2 ^ 32) % 2 ^ 64 ≡ s → r ≡ low_part s h
unfolding low_part
low_part_lem {r} {s} h b e =
    let m : 2 ^ 32 * h % 2 ^ 64 ≡ h % 2 ^ 32 * 2 ^ 32 = omega arith in
    rw m (omega arith)

pub part-whole : {s : ℕ} (h : ℕ) → s < 2 ^ 64 → (2 ^ 32 * h + low_part s h) % 2 ^ 64 ≡ s
unfolding low_part
part-whole h b = omega arith

pub record Small (n : ℕ) (sums high : List ℕ) : Type 0 where
  pub sums-room : n ≤ length sums
  pub high-room : n ≤ length high
  pub low_below : (k : ℕ) → k < n → low_part (slice_index sums k) (slice_index high k) < 2 ^ 46
  pub high-below : (k : ℕ) → k < n → slice_index high k < 2 ^ 46

unfoldable pub remainder_at : ℕ → List ℕ → List ℕ → ℕ → ℕ
remainder_at p sums high k = (2 ^ 32 * coefficient high k + low_part (coefficient sums k) (coefficient high k)) % p

unfoldable pub remainder_list : ℕ → ℕ → List ℕ → List ℕ → List ℕ
remainder_list p n sums high = tabulate n (remainder_at p sums high)
