-- How many digits a number has.
--
--   length_one length_two length_three length_four   a number below 10, 100, 1000 and 10000
--   length_more    a number from 10000 on has four more than its quotient by 10000
--   by_fours       these, for `grind`
-- Assumes nothing.
use Rattle.std.specs.Prelude.{ℕ, ◌+◌, ◌/◌, ◌<◌, ◌≤◌, length, ◌≡◌, refl}
use Rattle.std.proofs.Common.{arith, ap, length-append, ◌∙◌}
use Rattle.definition.specs.Text.{decimal}
use Rattle.decimal.specs.Digits.{decimal_digit, decimal-next}

pub length_one : (v : ℕ) → v < 10 → length (decimal v) ≡ 1
length_one v h = rw (decimal_digit v h) refl

length-next : (v : ℕ) → 10 ≤ v → length (decimal v) ≡ length (decimal (v / 10)) + 1
length-next v h = rw (decimal-next v h, length-append) refl

pub length_two : (v : ℕ) → 10 ≤ v → v < 100 → length (decimal v) ≡ 2
length_two v h g = omega (arith, length-next v h, length_one (v / 10) (omega arith))

pub length_three : (v : ℕ) → 100 ≤ v → v < 1000 → length (decimal v) ≡ 3
length_three v h g = omega (arith, length-next v (omega arith), length_two (v / 10) (omega arith) (omega arith))

pub length_four : (v : ℕ) → 1000 ≤ v → v < 10000 → length (decimal v) ≡ 4
length_four v h g = omega (arith, length-next v (omega arith), length_three (v / 10) (omega arith) (omega arith))

pub length_more : (v : ℕ) → 10000 ≤ v → length (decimal v) ≡ length (decimal (v / 10000)) + 4
length_more v h =
    let e : v / 10 / 10 / 10 / 10 ≡ v / 10000 = omega arith in
    length-next v (omega arith) ∙ omega (
      arith,
      length-next (v / 10) (omega arith),
      length-next (v / 10 / 10) (omega arith),
      length-next (v / 10 / 10 / 10) (omega arith),
      ap (λ w. length (decimal w)) e,
    )

pub ruleset by_fours = (length_one, length_two, length_three, length_four, length_more)
