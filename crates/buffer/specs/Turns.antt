-- Where a running value stands that each step brings from one place to the other, so that it is never moved.
--
--   running_place n t i   its place while i steps are left: t or t + n by turns, and t in the end
--   running_last_place   in the end it stands at t
--   running_again        two steps on it stands where it stood
--   running-inside       it lies inside the 2 n places from t on
--   running-apart        and apart from where it stands with one step more left
-- Assumes nothing.
use Prim.Native.Nat.{ℕ, zero, suc, ◌+◌, ◌*◌, ◌%◌, ◌≤◌}
use Rattle.std.proofs.Math.Nat.{mul-le-mul_right}
use native.Mathlib.Omega.{arith}
use Rattle.std.specs.Prelude.{◌⊎◌, ◌≡◌}
use Rattle.std.proofs.Math.Logic.{inl, inr}

unfoldable pub running_place : ℕ → ℕ → ℕ → ℕ
running_place n t i = t + i % 2 * n

pub running_last_place : (n t : ℕ) → running_place n t 0 ≡ t
unfolding running_place
running_last_place n t = omega arith

module _ (n t i : ℕ) where
  pub running_again : running_place n t (suc (suc i)) ≡ running_place n t i
  unfolding running_place
  running_again =
      let even : suc (suc i) % 2 ≡ i % 2 = omega arith in
      rw even

  pub running-inside : (t ≤ running_place n t i) × (running_place n t i + n ≤ t + 2 * n)
  unfolding running_place
  running-inside =
      let few : i % 2 * n ≤ 1 * n = mul-le-mul_right n (omega arith) in
      (omega arith, omega arith)

  pub running-apart : (running_place n t (suc i) + n ≤ running_place n t i) ⊎ (running_place n t i + n ≤ running_place n t (suc i))
  unfolding running_place
  running-apart = go (i % 2) (suc i % 2) (omega arith)
    where
      go : (r s : ℕ) → r + s ≡ 1 → (t + s * n + n ≤ t + r * n) ⊎ (t + r * n + n ≤ t + s * n)
      go zero s e =
          let one : s ≡ 1 = omega arith in
          inr (rw one (omega arith))
      go (suc r) s e =
          let one : r ≡ 0 = omega arith in
          let none : s ≡ 0 = omega arith in
          inl (rw (one, none) (omega arith))
