-- g^b by left-to-right binary powering on places of the work buffer. The inner list g stands at place 0. The running power begins as g, and each binary digit of
-- b after the first squares it and, where the digit is 1, multiplies it by g. It stands at n or 2 n by turns, and at n in the end: `due` products are still
-- due.
--
--   PowerOperands        what the routines that form powers require: the places of the powers, and n after them
--   DigitTaken           the contract of `take_digit`
--   BasePower            the contract of `base_power`
--   Running              before each digit: the digits of b but the last `left` are taken
--   operands-length      they hold for every list of that length
--   copy_operands        what the copy of g requires
--   after-square         after the squaring the running power has twice the exponent
--   after_multiply       after the product with g it has one more
--   first-operands second-operands   what the first and the second step of a digit require
--   digit_squared digit_multiplied   the digit 0 is taken, and the digit 1
--   running-few          the digits left are few
--   running-due          the products that the next digit takes are among those due
--   running-small        the weight fits a word
--   running-next         one digit more is taken
--   operands_copied      the operands once g is copied
--   running-first        g, and all digits but the first are left
--   running_last         all digits
-- Assumes nothing.
use Rattle.std.specs.Prelude.{ℕ, suc, ◌+◌, ◌-◌, ◌*◌, ◌/◌, ◌%◌, ◌^◌, ◌<◌, ◌≤◌, List, ◌≡◌, refl, length}
use Rattle.std.proofs.Common.{add-mul, div-one, le-div_iff_mul-le, mul-le-mul, zero-mul, inl, inr, ap, sym, ◌∙◌, pow_mono, pow_pos, length-take-le}
use native.Mathlib.Omega.{arith, by_contra}
use Rattle.std.specs.Int.Count.{count_leading_zeros, ones}
use Rattle.std.proofs.lemmas.Nat.{shr_le}
use Rattle.std.proofs.lemmas.List.Edits.{sets}
use Rattle.buffer.specs.Segments.{Apart, CopyOperands, segment}
use Rattle.buffer.specs.Turns.{running_again, running-apart, running-inside, running_last_place, running_place}
use Rattle.buffer.specs.Within.{Within, segment-sets, segment-within, within_refl, within-sets, within_trans, within_wider}
use Rattle.definition.specs.Refusal.{limit, longest_block}
use Rattle.definition.specs.Weight.{power_products}
use Rattle.product.specs.Single.{Multiplied, Operands, multiplied-value, multiplied-within}
use Rattle.powers.specs.Digits.{first_digit, next_digit, power-products-1, power-products_digits, power-products-few, power-products-half}
use Rattle.powers.specs.Powers.{IsPower, first-power, power-product}

pub record PowerOperands (p n rounds : ℕ) (w : List ℕ) : Type 0 where
  pub modulus : 0 < p
  pub order : n ≤ limit
  pub few : rounds ≤ 12
  pub room : (rounds + 2) * n ≤ length w

pub record DigitTaken (p n digit due : ℕ) (before after : List ℕ) (result : ℕ) : Type 0 where
  pub within : Within n (2 * n) before after
  pub value : (e : ℕ) → IsPower p n (segment before 0 n) e (segment before (running_place n n due) n)
      → IsPower p n (segment before 0 n) (2 * e + digit) (segment after (running_place n n (due - (1 + digit))) n)
  pub sum : result ≡ (1 + digit) * n

pub record BasePower (p n b : ℕ) (before after : List ℕ) (result : ℕ) : Type 0 where
  pub within : Within n (2 * n) before after
  pub value : IsPower p n (segment before 0 n) b (segment after n n)
  pub sum : result ≡ power_products b * n

pub record Running (p n b : ℕ) (before now : List ℕ) (left due weight : ℕ) : Type 0 where
  pub within : Within n (2 * n) before now
  pub value : IsPower p n (segment before 0 n) (b / 2 ^ left) (segment now (running_place n n due) n)
  pub some : 0 < b / 2 ^ left
  pub products : due + power_products (b / 2 ^ left) ≡ power_products b
  pub sum : weight ≡ power_products (b / 2 ^ left) * n

pub operands-length : {p n rounds : ℕ} {v w : List ℕ} → length v ≡ length w → PowerOperands p n rounds w → PowerOperands p n rounds v
operands-length size pre = record { modulus = pre.modulus; order = pre.order; few = pre.few; room = rw size pre.room }

-- the running power lies after g
after-inner : (n due : ℕ) {place : ℕ} → place ≡ running_place n n due → (n ≤ place) × (place + n ≤ 3 * n)
after-inner n due e =
    let inside = running-inside n n due in
    rw e (inside.0, omega (arith, inside.1))

module _ {p n : ℕ} {u : List ℕ} (pre : PowerOperands p n 1 u) where
  pub copy_operands : (due : ℕ) → CopyOperands 0 (running_place n n due) n u
  copy_operands due =
      let inside = running-inside n n due in
      record { source = omega (arith, pre.room); target = omega (arith, inside, pre.room); order = inr (omega (arith, inside)) }

  -- from one place to the other
  module _ (due : ℕ) {from to : ℕ} (leaves : from ≡ running_place n n (suc due)) (comes : to ≡ running_place n n due) {v : List ℕ}
      (size : length v ≡ length u) where
    square-operands : Operands p n from from to v
    square-operands =
        let apart : Apart v from n to n = record {
          source = omega (arith, (after-inner n (suc due) leaves).1, pre.room);
          target = omega (arith, (after-inner n due comes).1, pre.room);
          apart = rw (leaves, comes) (running-apart n n due);
        } in
        record { modulus = pre.modulus; order = omega (arith, pre.order); left = apart; right = apart }

    multiply_operands : Operands p n from 0 to v
    multiply_operands = record {
      modulus = pre.modulus;
      order = omega (arith, pre.order);
      left = square-operands.left;
      right = record {
        source = omega (arith, pre.room);
        target = omega (arith, (after-inner n due comes).1, pre.room);
        apart = inl (omega (arith, (after-inner n due comes).0));
      };
    }

    module _ {g w : List ℕ} {e r : ℕ} (power : IsPower p n g e (segment v from n)) where
      pub after-square : Multiplied p n from from to v w r → IsPower p n g (2 * e) (segment w to n)
      after-square squared =
          let twice : 2 * e ≡ e + e = omega arith in
          rw (multiplied-value squared square-operands.left.target, twice) (power-product power power)

      pub after_multiply : segment v 0 n ≡ g → Multiplied p n from 0 to v w r → IsPower p n g (e + 1) (segment w to n)
      after_multiply inner multiplied =
          rw (multiplied-value multiplied square-operands.left.target, inner) (power-product power (first-power p n g))

  -- a digit is taken: u is the buffer before
  module _ {digit due from to : ℕ} (some : digit < due) (leaves : from ≡ running_place n n due) (comes : to ≡ running_place n n (due - 1)) where
    first-leaves : from ≡ running_place n n (suc (due - 1))
    first-leaves = leaves ∙ ap (running_place n n) (omega arith)

    pub first-operands : Operands p n from from to u
    first-operands = square-operands (due - 1) first-leaves comes refl

    to_inside : (n ≤ to) × (to + n ≤ 3 * n)
    to_inside = after-inner n (due - 1) comes

    pub digit_squared : {w : List ℕ} {r : ℕ} → digit ≡ 0 → Multiplied p n from from to u w r → DigitTaken p n digit due u w r
    digit_squared {w} none squared = record {
      within = within_wider to_inside.0 (omega (arith, to_inside.1)) (multiplied-within squared);
      value = λ e power.
          let place : running_place n n (due - (1 + digit)) ≡ to = ap (running_place n n) (omega arith) ∙ sym comes in
          let exponent : 2 * e + digit ≡ 2 * e = omega arith in
          rw (place, exponent) (after-square (due - 1) first-leaves comes refl (rw leaves power) squared);
      sum = rw none (omega (arith, squared.places));
    }

    -- v is the buffer between the steps
    module _ (one : digit ≡ 1) where
      back : (to ≡ running_place n n (suc (due - 2))) × (from ≡ running_place n n (due - 2))
      back = (
        comes ∙ ap (running_place n n) (omega arith),
        leaves ∙ ap (running_place n n) (omega arith) ∙ running_again n n (due - 2),
      )

      pub second-operands : {v : List ℕ} → length v ≡ length u → Operands p n to 0 from v
      second-operands size = multiply_operands (due - 2) back.0 back.1 size

      pub digit_multiplied : {v w : List ℕ} {q r : ℕ} → Multiplied p n from from to u v q → Multiplied p n to 0 from v w r
          → DigitTaken p n digit due u w (q + r)
      digit_multiplied {v} {w} squared multiplied =
          let first : Within n (2 * n) u v = within_wider to_inside.0 (omega (arith, to_inside.1)) (multiplied-within squared) in
          let from-inside = after-inner n (due - 2) back.1 in
          record {
            within = within_trans first (within_wider from-inside.0 (omega (arith, from-inside.1)) (multiplied-within multiplied));
            value = λ e power.
                let place : running_place n n (due - (1 + digit)) ≡ from = ap (running_place n n) (omega arith) ∙ sym back.1 in
                let exponent : 2 * e + digit ≡ 2 * e + 1 = omega arith in
                rw (place, exponent)
                (after_multiply (due - 2) back.0 back.1 first.size
                (after-square (due - 1) first-leaves comes refl (rw leaves power) squared)
                (segment-within first 0 n (inl (omega arith))) multiplied);
            sum = rw one (omega (arith, squared.places, multiplied.places));
          }

-- the powering of g^b: w is the buffer once g is copied
module _ {p n b : ℕ} {w : List ℕ} (pre : PowerOperands p n 1 w) (bounds : (0 < b) × (b ≤ longest_block)) where
  -- a turn: the digit after which `left` are left
  module _ {left due weight : ℕ} {u : List ℕ} (r : Running p n b w u (suc left) due weight) where
    pub running-few : suc left < 32
    running-few =
        by_contra (suc (suc left)) 32 λ many.
        omega (arith, pow_mono {i = 7} {j = suc left} (omega arith), (le-div_iff_mul-le {x = 1} (pow_pos (suc left))).0 r.some, bounds.1)

    half : b / 2 ^ suc left ≡ b / 2 ^ left / 2
    half = next_digit b left

    more : power_products (b / 2 ^ left) ≡ power_products (b / 2 ^ suc left) + 1 + b / 2 ^ left % 2
    more = rw half (power-products-half (b / 2 ^ left) (omega (arith, r.some, half)) (omega (arith, bounds.1, shr_le b left)))

    -- and the places of them
    more-places : power_products (b / 2 ^ left) * n ≡ power_products (b / 2 ^ suc left) * n + (1 + b / 2 ^ left % 2) * n
    more-places = ap (λ k. k * n) (omega (arith, more)) ∙ add-mul (power_products (b / 2 ^ suc left)) (1 + b / 2 ^ left % 2) n

    enough : power_products (b / 2 ^ left) ≤ power_products b
    enough = power-products_digits b left (omega (arith, bounds.1)) (omega (arith, r.some, half))

    pub running-due : b / 2 ^ left % 2 < due
    running-due = omega (arith, r.products, more, enough)

    pub running-small : (weight + (1 + b / 2 ^ left % 2) * n) ≤ 37 * limit
    running-small =
        omega (
          arith,
          r.sum,
          more-places,
          mul-le-mul {n₁ = power_products (b / 2 ^ left)} {n₂ = 37} {m₂ = limit} (omega (arith, enough, power-products-few b bounds.1)) pre.order,
        )

    pub running-next : {digit result : ℕ} {v : List ℕ} → digit ≡ b / 2 ^ left % 2 → DigitTaken p n digit due u v result
        → Running p n b w v left (due - (1 + digit)) (weight + result)
    running-next {digit} {result} {v} last taken = record {
      within = within_trans r.within taken.within;
      value =
          let inner : segment u 0 n ≡ segment w 0 n = segment-within r.within 0 n (inl (omega arith)) in
          let exponent : 2 * (b / 2 ^ suc left) + digit ≡ b / 2 ^ left = omega (arith, half) in
          rw (← exponent, ← inner) (taken.value (b / 2 ^ suc left) (rw inner r.value));
      some = omega (arith, r.some, half);
      products = omega (arith, r.products, more, running-due);
      sum = omega (arith, r.sum, rw last at taken.sum, more-places);
    }

-- the copy: w is the buffer before it, v after
module _ {p n b : ℕ} {w : List ℕ} (pre : PowerOperands p n 1 w) (bounds : (0 < b) × (b ≤ longest_block)) {left due start : ℕ} {v : List ℕ}
    (digits : left ≡ 32 - count_leading_zeros 32 b - 1) (products : due ≡ left + (ones b - 1)) (place : start ≡ running_place n n due)
    (copied : v ≡ sets w start (segment w 0 n)) where
  inner-size : length (segment w 0 n) ≡ n
  inner-size = length-take-le n w (omega (arith, pre.room))

  copy_within : Within n (2 * n) w v
  copy_within =
      let inside = after-inner n due place in
      rw copied (within-sets w start (segment w 0 n) inside.0 (omega (arith, inner-size, inside.1)))

  inner-kept : segment v 0 n ≡ segment w 0 n
  inner-kept = segment-within copy_within 0 n (inl (omega arith))

  pub operands_copied : PowerOperands p n 1 v
  operands_copied = operands-length copy_within.size pre

  pub running-first : Running p n b v v left due 0
  unfolding power_products
  running-first =
      let one : b / 2 ^ left ≡ 1 = rw digits (first_digit b bounds.0 (omega (arith, bounds.1))) in
      record {
        within = within_refl n (2 * n) v;
        value = rw (one, ← place, running) (first-power p n (segment v 0 n));
        some = omega (arith, one);
        products = rw (one, power-products-1) (omega (arith, digits, products));
        sum = rw (one, power-products-1) (sym (zero-mul n));
      }
    where
      running : segment v start n ≡ segment v 0 n
      running =
          rw (inner-kept, copied)
          (segment-sets w start (segment w 0 n) n inner-size (omega (arith, (after-inner n due place).1, pre.room)))

  pub running_last : {none weight : ℕ} {u : List ℕ} → Running p n b v u 0 none weight → BasePower p n b w u weight
  running_last {none} {weight} {u} r =
      let all : b / 2 ^ 0 ≡ b = div-one b in
      let nothing : none ≡ 0 = omega (arith, r.products, ap power_products all) in
      record {
        within = within_trans copy_within r.within;
        value = rw (nothing, running_last_place, all, inner-kept) at r.value;
        sum = rw all at r.sum;
      }
