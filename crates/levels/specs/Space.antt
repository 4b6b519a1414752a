-- The places that the levels use.
--
--   level_places K m r q d   the places of K levels from order r on: Q in q + 1 rows of r places, m - d rows of the result, Q(-x, y), and the
--                           rows of a product; at the last level Q, the quotient and what it is formed with
--   level_rows              Q and the result lie in them
--   first-steep             the degree, times two to the number of levels, stays below the limit
--   level_places_lem            they are at most the work of a composition
-- Assumes nothing.
use Prim.Native.Nat.{ℕ, zero, suc, ◌+◌, ◌-◌, ◌*◌, ◌^◌, ◌<◌, ◌≤◌, min}
use Rattle.std.proofs.Math.Nat.{mul-le-mul_left, mul-le-mul_right, mul-suc, pow-le-pow_right, pow-suc}
use Rattle.std.proofs.Common.{one-mul}
use native.Mathlib.Omega.{arith, by_contra}
use Rattle.std.specs.Prelude.{◌≡◌, refl}
use Rattle.algebra.specs.Halvings.{halvings-covers, halvings-least}
use Rattle.definition.specs.Lists.{ceil_div}
use Rattle.definition.specs.Refusal.{compose_work, limit}
use Rattle.definition.specs.Weight.{degree_bound, halvings}

unfoldable pub level_places : ℕ → ℕ → ℕ → ℕ → ℕ → ℕ
level_places zero m r q d = (q + 1) * r + 4 * m
level_places (suc K) m r q d =
    (q + 1) * r + (m - d) * r + (q + 1) * r + (degree_bound m q + 1) * r
    + level_places K m (ceil_div r 2) (degree_bound m q) (d - q)

pub level_rows : (K m r q d : ℕ) → r ≤ 2 ^ K → (q + 1) * r + (m - d) * r ≤ level_places K m r q d
unfolding level_places
level_rows zero m r q d h = omega (arith, mul-le-mul_left (m - d) h)
level_rows (suc K) m r q d h = omega arith

-- c is 2 to the number of levels above
module _ (n m : ℕ) (outer : 0 < m) where
  level_space : (K c r q d : ℕ) → c * r ≤ n + c → c * 2 ^ K ≤ 2 * n → q ≤ c → q < m → m ≤ d + c → r ≤ 2 ^ K
      → level_places K m r q d + 5 * c ≤ (5 * n + 3) * K + 10 * n + 6 * r + 5 * m
  unfolding level_places degree_bound ceil_div
  level_space zero c r q d rows levels degree bound window small =
      omega (arith, mul-le-mul_left (q + 1) small)
  level_space (suc K) c r q d rows levels degree bound window small =
      omega (
        arith,
        mul-le-mul_right {m = q + 1} {n = c + 1} r (omega arith),
        mul-le-mul_right {m = m - d} {n = c} r (omega arith),
        mul-le-mul_right {m = degree_bound m q + 1} {n = 2 * c + 1} r (omega arith),
        mul-suc (5 * n + 3) K,
        level_space K (2 * c) (ceil_div r 2) (degree_bound m q) (d - q)
            (omega (arith, mul-le-mul_left {m = 2 * ceil_div r 2} {n = r + 1} c (omega arith)))
            (omega (arith, rw pow-suc at levels)) (omega arith) (omega arith) (omega arith) (omega arith),
      )

few-halvings : (n : ℕ) → n ≤ limit → halvings n ≤ 12
few-halvings n order = by_contra (halvings n) 12 (λ h. omega (arith, halvings-least n 12 h))

-- twelve levels, the degree at most doubled at each
pub first-steep : (n m : ℕ) → n ≤ limit → min 1 (m - 1) * 2 ^ halvings n ≤ limit
first-steep n m order =
    let power : 2 ^ halvings n ≤ 2 ^ 12 = pow-le-pow_right (omega arith) (few-halvings n order) in
    let once : min 1 (m - 1) * 2 ^ halvings n ≤ 1 * 2 ^ halvings n = mul-le-mul_right (2 ^ halvings n) (omega arith) in
    omega (arith, power, once, one-mul (2 ^ halvings n))

pub level_places_lem : (n m : ℕ) → 0 < n → n ≤ limit → 0 < m
    → level_places (halvings n) m n (min 1 (m - 1)) (m - 1) ≤ compose_work n m
level_places_lem n m positive order outer =
    omega (
      arith,
      mul-le-mul_left (5 * n + 3) few,
      level_space n m outer (halvings n) 1 n (min 1 (m - 1)) (m - 1) (omega arith) (omega (arith, covered)) (omega arith) (omega arith)
          (omega arith) (halvings-covers n),
    )
  where
    few : halvings n ≤ 12
    few = few-halvings n order

    covered : 2 ^ halvings n ≤ 2 * n
    covered = at (halvings n) refl
      where
        at : (K : ℕ) → halvings n ≡ K → 2 ^ K ≤ 2 * n
        at zero e = omega arith
        at (suc K) e = omega (arith, halvings-least n K (omega arith), pow-suc 2 K)
