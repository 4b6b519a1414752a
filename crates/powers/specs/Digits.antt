-- The binary digits of an exponent, and the products that form the power by them.
--
--   ones_positive          a number that is not 0 has a digit 1
--   power-products-1       g itself takes none
--   power-products-half    for b above 1 they are those of g^(b/2), a squaring, and one more where b is odd
--   power-products_digits  the power of the first digits of b takes no more than g^b
--   power-products-few     they are few where b is at most 64
--   first_digit            after all digits but the first, 1 is left
--   next_digit             the digits before the next one make half of what they make with it
-- Assumes nothing.
use Rattle.std.specs.Prelude.{ℕ, zero, suc, ◌+◌, ◌-◌, ◌*◌, ◌/◌, ◌%◌, ◌^◌, ◌<◌, ◌≤◌, ◌≡◌, refl}
use Rattle.std.proofs.Common.{div-lt_iff_lt-mul, div-one, le-div_iff_mul-le, le_refl, le_trans, one-mul, pow-suc, add-one, arith, sym, pow_pos, shr-shr}
use Rattle.std.proofs.Math.Nat.{pow-zero}
use Rattle.std.proofs.lemmas.Nat.{leading_length, leading_top, ones_cat, ones-le, shr_le}
use Rattle.std.specs.Int.Count.{leading_unique, count_leading_zeros, ones, ones_step, ones_in}
use Rattle.definition.specs.Weight.{power_products}

-- one place more is one leading zero more
leading-more : (k a : ℕ) → a < 2 ^ k → count_leading_zeros (suc k) a ≡ suc (count_leading_zeros k a)
leading-more k a below =
    let (m, e, c, d) = leading_length k a below in
    sym (leading_unique (suc k) a (suc (count_leading_zeros k a)) m (omega arith) c d)

-- the last digit dropped, with its place
leading-half : (k b : ℕ) → 0 < b → count_leading_zeros (suc k) b ≡ count_leading_zeros k (b / 2)
unfolding count_leading_zeros
leading-half k zero positive = absurd (omega arith)
leading-half k (suc b) positive = refl

pub ones_positive : (b : ℕ) → 0 < b → b < 2 ^ 32 → 0 < ones b
unfolding ones ones_in
ones_positive b positive below =
    let (j, _, low, high) = leading_top 32 b positive below in
    let split : b ≡ 1 * 2 ^ j + (b - 2 ^ j) = omega arith in
    let digits : ones (1 * 2 ^ j + (b - 2 ^ j)) ≡ ones 1 + ones (b - 2 ^ j) = ones_cat j 1 (b - 2 ^ j) (omega (arith, pow-suc 2 j)) in
    rw split (omega (arith, digits))

pub power-products-1 : power_products 1 ≡ 0
unfolding power_products count_leading_zeros ones ones_in
power-products-1 = refl

pub power-products-half : (b : ℕ) → 1 < b → b < 2 ^ 32 → power_products b ≡ power_products (b / 2) + 1 + b % 2
unfolding power_products
power-products-half b more below =
    let (j, top, _, _) = leading_top 31 (b / 2) (omega arith) (omega arith) in
    omega (
      arith,
      leading-half 31 b (omega arith),
      leading-more 31 (b / 2) (omega arith),
      top,
      ones_step b,
      ones_positive (b / 2) (omega arith) (omega arith),
    )

pub next_digit : (b left : ℕ) → b / 2 ^ suc left ≡ b / 2 ^ left / 2
next_digit b left = rw (← add-one left) (sym (shr-shr b left 1))

pub power-products_digits : (b left : ℕ) → b < 2 ^ 32 → 0 < b / 2 ^ left → power_products (b / 2 ^ left) ≤ power_products b
power-products_digits b zero below positive = rw (pow-zero, div-one) (le_refl _)
power-products_digits b (suc left) below positive =
    let half = next_digit b left in
    le_trans
    (rw half (omega (arith, power-products-half (b / 2 ^ left) (omega arith) (omega (arith, shr_le b left)))))
    (power-products_digits b left below (omega arith))

pub power-products-few : (b : ℕ) → b ≤ 64 → power_products b ≤ 37
unfolding power_products
power-products-few b short = omega (arith, ones-le 7 b (omega arith))

pub first_digit : (b : ℕ) → 0 < b → b < 2 ^ 32 → b / 2 ^ (32 - count_leading_zeros 32 b - 1) ≡ 1
first_digit b positive below =
    let (j, top, low, high) = leading_top 32 b positive below in
    let place : 32 - count_leading_zeros 32 b - 1 ≡ j = omega arith in
    let least : 1 ≤ b / 2 ^ j = (le-div_iff_mul-le (pow_pos j)).1 (rw one-mul low) in
    let most : b / 2 ^ j < 2 = (div-lt_iff_lt-mul (pow_pos j)).1 (omega (arith, pow-suc 2 j)) in
    rw place (omega arith)
