-- A remainder by multiplications, where the modulus m lies between 2^30 and 2^31. The quotient of a number by m is estimated from its upper 32 bits
-- and the inverse of m, the quotient of 2^62 - 1 by it.
--
--   Between m        2^30 < m and m ≤ 2^31
--   between          so it is where 2^32 has two or three times m in it
--   inverse-small    the inverse has 32 bits
--   product_small    and the product of such a number and it has 64
--   below near       the estimated quotient is not too large, and not much too small
--   first_step       the first multiple of m that is taken off leaves a number below 2^50 with the same remainder
--   second-step      the second one leaves a number below 2 m
-- Assumes nothing.
use Rattle.std.specs.Prelude.{◌≡◌, ℕ, ◌+◌, ◌-◌, ◌*◌, ◌/◌, ◌%◌, ◌^◌, ◌<◌, ◌≤◌}
use Rattle.std.proofs.Common.{add-mul, div-lt_iff_lt-mul, div-mul-le_self, le_of_lt, mul-add, mul_assoc, mul-le-mul, mul-le-mul_left, mul-le-mul_right, one-mul, arith, sym, ap, ◌∙◌}
use Rattle.std.proofs.Math.Nat.{add-mul-mod_self_right, lt-div-mul-add, lt-mul-div-succ, mul-div-le}
use Rattle.rows.specs.Sums.{low_part, part-whole}
use Rattle.residue.specs.Residue.{product-below}

pub record Between (m : ℕ) : Type 0 where
  pub above : 2 ^ 30 < m
  pub most : m ≤ 2 ^ 31

pub between : {m : ℕ} → 0 < m → 2 ^ 32 / m / 2 ≡ 1 → Between m
between {m} l h =
    let two : m * 2 ≤ m * (2 ^ 32 / m) = mul-le-mul_left m (omega arith) in
    let four : m * (2 ^ 32 / m + 1) ≤ m * 4 = mul-le-mul_left m (omega arith) in
    record { above = omega (arith, four, lt-mul-div-succ (2 ^ 32) l); most = omega (arith, two, mul-div-le (2 ^ 32) m) }

-- i is the inverse of m
module _ {m i : ℕ} (b : Between m) (inverse : i ≡ (2 ^ 62 - 1) / m) where
  positive : 0 < m
  positive = omega (arith, b.above)

  pub inverse-small : i < 2 ^ 32
  inverse-small = rw inverse ((div-lt_iff_lt-mul positive).1 (omega (arith, b.above)))

  pub product_small : (a : ℕ) {x : ℕ} → a < 2 ^ 32 → x ≡ a * i → x < 2 ^ 64
  product_small a h e = omega (arith, product-below h inverse-small)

  -- y is m times the quotient of x by d, and x is a times the inverse: d y is not much less than 2^62 a
  module _ (a d : ℕ) {x y : ℕ} (e : x ≡ a * i) (f : y ≡ x / d * m) where
    below : d * y ≤ 2 ^ 62 * a
    below =
        let some : i * m ≤ 2 ^ 62 - 1 = rw inverse (div-mul-le_self (2 ^ 62 - 1) m) in
        omega (
          arith,
          ap (◌*◌ d) f,
          mul_assoc d (x / d) m,
          mul-le-mul_right m (mul-div-le x d),
          ap (λ t. t * m) e,
          mul_assoc a i m,
          mul-le-mul_left a some,
        )

    near : 0 < d → a < 2 ^ 32 → 2 ^ 62 * a < d * y + d * m + 2 ^ 63
    near l h =
        let more : 2 ^ 62 ≤ i * m + m = rw inverse (omega (arith, lt-div-mul-add {a = 2 ^ 62 - 1} positive)) in
        let small : a * m ≤ (2 ^ 32 - 1) * 2 ^ 31 = mul-le-mul {n₂ = 2 ^ 32 - 1} {m₂ = 2 ^ 31} (omega arith) b.most in
        let whole : d * (x / d + 1) * m ≡ d * y + d * m = rw (mul_assoc, add-mul, one-mul, mul-add, f) in
        omega (
          arith,
          whole,
          mul-le-mul_right m (le_of_lt (lt-mul-div-succ x l)),
          ap (λ t. t * m) e,
          mul_assoc a i m,
          mul-add a (i * m) m,
          mul-le-mul_left a more,
          small,
        )

  pub first_step : {high sum x y r : ℕ} → high < 2 ^ 46 → low_part sum high < 2 ^ 46 → sum < 2 ^ 64 → x ≡ high / 16384 * i → y ≡ x / 2 ^ 34 * m
      → r < 2 ^ 64 → (r + y % 2 ^ 46 * 262144) % 2 ^ 64 ≡ sum → (r < 2 ^ 50) × (r % m ≡ (2 ^ 32 * high + low_part sum high) % m)
  first_step {high} {sum} {x} {y} {r} few low fits e f small w =
      (omega (arith, left, rest), rw (left, f, ← mul_assoc, add-mul-mod_self_right))
    where
      rest : 2 ^ 32 * high + low_part sum high < 262144 * y + 2 ^ 50
      rest = omega (arith, near (high / 16384) (2 ^ 34) e f (omega arith) (omega arith), b.most)

      left : 2 ^ 32 * high + low_part sum high ≡ r + 262144 * y
      left = omega (arith, part-whole high fits, below (high / 16384) (2 ^ 34) e f, rest)

  pub second-step : {r x y : ℕ} → r < 2 ^ 50 → x ≡ r / 262144 * i → y ≡ x / 2 ^ 44 * m → (y ≤ r) × (r - y < m + m) × ((r - y) % m ≡ r % m)
  second-step {r} {x} {y} few e f =
      let fits : y ≤ r = omega (arith, below (r / 262144) (2 ^ 44) e f) in
      let left : r ≡ r - y + x / 2 ^ 44 * m = rw (← f) (omega arith) in
      (fits, omega (arith, near (r / 262144) (2 ^ 44) e f (omega arith) (omega arith), b.above), sym (ap (λ t. t % m) left ∙ add-mul-mod_self_right (r - y) (x / 2 ^ 44) m))
