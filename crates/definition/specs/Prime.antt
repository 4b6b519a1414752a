-- Prime numbers.
--
--   Prime p     p is above 1, and no number above 1 but p divides it
--   is_prime p   the same as a Boolean test: no number from 2 to p - 1 leaves remainder 0
--   largest_modulus   4294967295, the largest modulus that is taken
use Rattle.std.specs.Prelude.{ℕ, zero, suc, ◌+◌, ◌-◌, ◌%◌, ◌^◌, ◌<◌, ◌≡◌, Bool, true, not, ◌&&◌, ltb, eqb}
use Rattle.std.specs.Int.{◌∣◌}

pub record Prime (p : ℕ) : Type 0 where
  pub above-one : 1 < p
  pub undivided : (d : ℕ) → 1 < d → d ∣ p → d ≡ p

-- none of the k numbers from 2 on divides p
unfoldable pub indivisible : ℕ → ℕ → Bool
indivisible p zero = true
indivisible p (suc k) = indivisible p k && not (eqb (p % (2 + k)) 0)

unfoldable pub is_prime : ℕ → Bool
is_prime p = ltb 1 p && indivisible p (p - 2)

unfoldable pub largest_modulus : ℕ
largest_modulus = 2 ^ 32 - 1
