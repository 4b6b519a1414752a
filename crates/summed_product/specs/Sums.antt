-- Numbers that are kept in sums, and their remainders.
--
--   Sums n m s h f      place t keeps f t, for t below n
--   sums_none           zeros keep 0
--   sums-added sums_double sums-wider   what is added is kept, what is doubled, and with a larger bound
--   sums-small          the parts of what few terms add up to are small
--   sums-remainders     the remainders of the sums are those of the numbers
-- Assumes nothing.
use Rattle.std.specs.Prelude.{ℕ, ◌+◌, ◌-◌, ◌*◌, ◌%◌, ◌<◌, ◌≤◌, ◌^◌, ◌≡◌, List, length, get_or}
use Rattle.std.proofs.Common.{mul-le-mul_right}
use native.Mathlib.Omega.{arith}
use Rattle.std.proofs.Math.Path.{ap}
use Rattle.algebra.specs.Lists.{tabulate_cong}
use Rattle.definition.specs.Lists.{coefficient, tabulate}
use Rattle.rows.specs.Sums.{Small, low_part, remainder_at, remainder_list}
use Rattle.rows.specs.Rows.{Kept, kept_double, kept-none, kept-wider}
use Rattle.summed_product.specs.Terms.{Added}

pub record Sums (n m : ℕ) (s h : List ℕ) (f : ℕ → ℕ) : Type 0 where
  pub place : (t : ℕ) → t < n → Kept (f t) m (get_or s t 0) (get_or h t 0)

pub sums_none : {n : ℕ} {s h : List ℕ} → ((t : ℕ) → t < n → get_or s t 0 ≡ 0) → ((t : ℕ) → t < n → get_or h t 0 ≡ 0) → Sums n 0 s h (λ t. 0)
sums_none e f = record { place = λ t b. rw (e t b, f t b) kept-none }

pub sums-added : {n m k : ℕ} {s s' h h' : List ℕ} {f g d : ℕ → ℕ} → m + k ≤ 2 ^ 31 → Sums n m s h f → Added n k s s' h h' g
    → ((t : ℕ) → t < n → d t ≡ f t + g t) → Sums n (m + k) s' h' d
sums-added b sums added e = record { place = λ t c. rw (e t c) ((added.place t c).kept b (sums.place t c)) }

pub sums_double : {n m : ℕ} {s s' h h' : List ℕ} {f : ℕ → ℕ} → m + m ≤ 2 ^ 31 → Sums n m s h f
    → ((t : ℕ) → t < n → get_or s' t 0 ≡ (get_or s t 0 + get_or s t 0) % 2 ^ 64)
    → ((t : ℕ) → t < n → get_or h' t 0 ≡ (get_or h t 0 + get_or h t 0) % 2 ^ 64) → Sums n (m + m) s' h' (λ t. f t + f t)
sums_double b sums e g = record { place = λ t c. rw (e t c, g t c) (kept_double b (sums.place t c)) }

pub sums-wider : {n m k : ℕ} {s h : List ℕ} {f d : ℕ → ℕ} → m ≤ k → ((t : ℕ) → t < n → d t ≡ f t) → Sums n m s h f → Sums n k s h d
sums-wider b e sums = record { place = λ t c. rw (e t c) (kept-wider b (sums.place t c)) }

module _ {v c s h : ℕ} (k : Kept v c s h) (b : c ≤ 2 ^ 14 - 1) where
  few : c * (2 ^ 32 - 1) ≤ (2 ^ 14 - 1) * (2 ^ 32 - 1)
  few = mul-le-mul_right (2 ^ 32 - 1) b

  kept_low : low_part s h ≡ v - 2 ^ 32 * h
  unfolding low_part
  kept_low = rw k.wraps (left k.lower (omega (arith, few, k.upper)))
    where
      left : {a c : ℕ} → c ≤ a → a - c < 2 ^ 64 → (a % 2 ^ 64 + (2 ^ 64 - c % 2 ^ 64)) % 2 ^ 64 ≡ a - c
      left h g = omega arith

  kept-sum : 2 ^ 32 * h + low_part s h ≡ v
  kept-sum = rw kept_low (omega (arith, k.lower))

  kept_small : low_part s h < 2 ^ 46
  kept_small = rw kept_low (omega (arith, few, k.upper))

  kept-few : h < 2 ^ 46
  kept-few = omega (arith, few, k.few)

module _ {n m : ℕ} {s h : List ℕ} {f : ℕ → ℕ} (sums : Sums n m s h f) (b : m ≤ 2 ^ 14 - 1) where
  pub sums-small : n ≤ length s → n ≤ length h → Small n s h
  sums-small c d = record {
    sums-room = c;
    high-room = d;
    low_below = λ t e. kept_small (sums.place t e) b;
    high-below = λ t e. kept-few (sums.place t e) b;
  }

  pub sums-remainders : (p : ℕ) → remainder_list p n s h ≡ tabulate n (λ t. f t % p)
  unfolding remainder_list remainder_at coefficient
  sums-remainders p = tabulate_cong n (remainder_at p s h) (λ t. f t % p) (λ t c. ap (λ v. v % p) (kept-sum (sums.place t c) b))
