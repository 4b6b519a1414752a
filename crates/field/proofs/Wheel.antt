-- Trial division by the numbers prime to 30, over the definitions of specs/Wheel. They stand here, and not in specs/, so that a wheel that
-- leaves divisors out is refused by a proof.
--
--   wheel_seven    before 7 is tried
--   wheel_room     a step is above 0, and a step from d is at most p while the square of d is
--   wheel_next     d does not divide p: on to the next one
--   wheel_divided  d divides p, and its square is at most p: p is not prime
--   wheel-prime    the square of d is above p: p is prime
--   divided_two divided_three divided_five   of the numbers that 2, 3 or 5 divides only that prime itself is prime
--   prime-small    no number below 2 is prime
--   by_trial       the steps of `is_prime`, for `grind`
-- Assumes nothing.
use Rattle.std.specs.Prelude.{ℕ, zero, suc, ◌+◌, ◌*◌, ◌%◌, ◌<◌, ◌≤◌, get_or, eqb, true, false, ◌≢◌, ◌≡◌, refl}
use Rattle.std.proofs.Math.Decide.{dec_lt}
use Rattle.std.proofs.Common.{arith}
use Rattle.algebra.specs.Prime.{is_prime_false}
use Rattle.definition.specs.Prime.{indivisible, is_prime}
use Rattle.field.specs.Trial.{Tried, divided_prime, tried-next, tried-prime, tried-room, tried-three, tried_divided, undivided_by}
use Rattle.field.specs.Wheel.{Wheel, remainders, steps}

-- the step s from d leads to the remainder r, and 3 or 5 divides each odd number between
record Step (d s r : ℕ) : Type 0 where
  even : s % 2 ≡ 0
  positive : 0 < s
  short : s ≤ 6
  leads : (d + s) % 30 ≡ r
  second : 2 < s → (d + 2) % 3 ≢ 0 → (d + 2) % 5 ≢ 0 → ⊥
  third : 4 < s → (d + 2 + 2) % 3 ≢ 0 → (d + 2 + 2) % 5 ≢ 0 → ⊥

-- P of each number below n
abbrev Each : ℕ → (ℕ → Type 0) → Type 0
Each zero P = Unit
Each (suc n) P = P 0 × Each n (λ i. P (suc i))

each_below : (n : ℕ) (P : ℕ → Type 0) → Each n P → (i : ℕ) → i < n → P i
each_below zero P every i l = absurd (omega arith)
each_below (suc n) P every zero l = every.0
each_below (suc n) P every (suc i) l = each_below n (λ i. P (suc i)) every.1 i (omega arith)

step : (d i : ℕ) → i < 8 → d % 30 ≡ get_or remainders i 0 → Step d (get_or steps i 0) (get_or remainders ((i + 1) % 8) 0)
unfolding steps remainders
step d =
    each_below 8 (λ i. d % 30 ≡ get_or remainders i 0 → Step d (get_or steps i 0) (get_or remainders ((i + 1) % 8) 0)) (search arith)

pub wheel_seven : (p : ℕ) → 1 < p → p % 2 ≢ 0 → p % 3 ≢ 0 → p % 5 ≢ 0 → Wheel p 7 0
unfolding remainders
wheel_seven p l two three five =
    record {
      tried = tried-next (tried-next (tried-three p l two) three) five;
      past_five = omega arith;
      within = omega arith;
      place = omega arith;
    }

module _ {p d i : ℕ} (w : Wheel p d i) where
  from_here : Step d (get_or steps i 0) (get_or remainders ((i + 1) % 8) 0)
  from_here = step d i w.within w.place

  pub wheel_room : d * d ≤ p → (0 < get_or steps i 0) × (d + get_or steps i 0 ≤ p)
  wheel_room square =
      (from_here.positive, omega (arith, from_here.short, w.past_five, tried-room w.tried square))

  -- a number that 3 or 5 divides does not divide p, since they do not
  passed : (k : ℕ) → (k % 3 ≢ 0 → k % 5 ≢ 0 → ⊥) → p % k ≢ 0
  passed k divided e = divided (free 3 (omega arith) (omega arith)) (free 5 (omega arith) (omega arith))
    where
      free : (q : ℕ) → 1 < q → q ≤ 5 → k % q ≢ 0
      free q low high = undivided_by p k q (w.tried.undivided q low (omega (arith, w.past_five))) e

  pub wheel_next : p % d ≢ 0 → Wheel p (d + get_or steps i 0) ((i + 1) % 8)
  wheel_next here =
      record {
        tried = go (get_or steps i 0) from_here (dec_lt 2 (get_or steps i 0)) (dec_lt 4 (get_or steps i 0));
        past_five = omega (arith, w.past_five);
        within = omega arith;
        place = from_here.leads;
      }
    where
      one : Tried p (d + 2)
      one = tried-next w.tried here

      go : (s : ℕ) → Step d s (get_or remainders ((i + 1) % 8) 0) → Dec (2 < s) → Dec (4 < s) → Tried p (d + s)
      go s f (no a) _ = let e : d + s ≡ d + 2 = omega (arith, f.even, f.positive) in rw e one
      go s f (yes a) (no b) =
          let e : d + s ≡ d + 2 + 2 = omega (arith, f.even) in
          rw e (tried-next one (passed (d + 2) (f.second a)))
      go s f (yes a) (yes b) =
          let e : d + s ≡ d + 2 + 2 + 2 = omega (arith, f.even, f.short) in
          rw e (tried-next (tried-next one (passed (d + 2) (f.second a))) (passed (d + 2 + 2) (f.third b)))

  pub wheel_divided : p % d ≡ 0 → d * d ≤ p → is_prime p ≡ false
  wheel_divided e square = tried_divided w.tried square e

  pub wheel-prime : p < d * d → is_prime p ≡ true
  wheel-prime = tried-prime w.tried

-- of the numbers that 2, 3 or 5 divides only that prime itself is prime
module _ (p : ℕ) (above : 1 < p) where
  pub divided_two : p % 2 ≡ 0 → eqb p 2 ≡ is_prime p
  unfolding is_prime indivisible
  divided_two = divided_prime p 2 refl above

  pub divided_three : p % 3 ≡ 0 → eqb p 3 ≡ is_prime p
  unfolding is_prime indivisible
  divided_three = divided_prime p 3 refl above

  pub divided_five : p % 5 ≡ 0 → eqb p 5 ≡ is_prime p
  unfolding is_prime indivisible
  divided_five = divided_prime p 5 refl above

pub prime-small : (p : ℕ) → p < 2 → is_prime p ≡ false
prime-small p l = is_prime_false p (λ prime. omega (arith, prime.above-one))

pub ruleset by_trial = (wheel_divided, wheel-prime, wheel_next, wheel_room, wheel_seven, prime-small, divided_two, divided_three, divided_five)
