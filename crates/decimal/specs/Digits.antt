-- The decimal digits of a number.
--
--   decimal_digit    a number below 10 is one digit
--   decimal-next     the digits of v / 10, and one more
--   decimal-length   a number below 10 ^ k has at most k digits, where k is not 0
--   decimal-printed  they are what the library prints of it
--   word-length long_length   the most digits of a number of 32 and of 64 bits
-- Assumes nothing.
use Rattle.std.specs.Prelude.{ℕ, zero, suc, ◌+◌, ◌/◌, ◌%◌, ◌^◌, ◌<◌, ◌≤◌, ltb, length, Bool, true, false, [], ◌∷◌, ◌++◌, ◌≡◌, refl}
use Rattle.std.proofs.Common.{div-lt_iff_lt-mul, pow-suc, arith, le-ltb, lt-ltb, ltb-false, ltb-true, length-append, ◌∙◌}
use Rattle.std.proofs.lemmas.Fmt.{decimal_from_appends, length-decimal-le_succ}
use Rattle.std.specs.Fmt.{decimal as printed}
use Rattle.definition.specs.Text.{decimal, decimal_within}

-- one step of the definition: v below 10, and v from 10 on
within_digit : (k v : ℕ) → v < 10 → decimal_within (suc k) v ≡ (48 + v) ∷ []
unfolding decimal_within
within_digit k v h = rw (decimal_within, lt-ltb v 10 h)

within-next : (k v : ℕ) → 10 ≤ v → decimal_within (suc k) v ≡ decimal_within k (v / 10) ++ ((48 + v % 10) ∷ [])
unfolding decimal_within
within-next k v h = rw (decimal_within, le-ltb v 10 h)

-- two bounds above v give the same digits
within_same : (j k v : ℕ) → v < j → v < k → decimal_within j v ≡ decimal_within k v
within_same zero k v h g = absurd (omega arith)
within_same (suc j) zero v h g = absurd (omega arith)
within_same (suc j) (suc k) v h g = step (ltb v 10) refl (λ low. within_same j k (v / 10) (omega arith) (omega arith))
  where
    step : (b : Bool) → ltb v 10 ≡ b → (10 ≤ v → decimal_within j (v / 10) ≡ decimal_within k (v / 10)) → decimal_within (suc j) v ≡ decimal_within (suc k) v
    step true e rest = rw (within_digit j v (ltb-true v 10 e), within_digit k v (ltb-true v 10 e))
    step false e rest =
        let low = ltb-false v 10 e in
        rw (within-next j v low, within-next k v low, rest low)

pub decimal_digit : (v : ℕ) → v < 10 → decimal v ≡ (48 + v) ∷ []
unfolding decimal
decimal_digit v h = within_digit v v h

pub decimal-next : (v : ℕ) → 10 ≤ v → decimal v ≡ decimal (v / 10) ++ ((48 + v % 10) ∷ [])
unfolding decimal
decimal-next v h = within-next v v h ∙ rw (within_same v (suc (v / 10)) (v / 10) (omega arith) (omega arith))

pub decimal-length : (k v : ℕ) → v < 10 ^ k → 0 < k → length (decimal v) ≤ k
decimal-length zero v h positive = absurd (omega arith)
decimal-length (suc zero) v h positive = rw (decimal_digit v h) (omega arith)
decimal-length (suc (suc k)) v h positive =
    step (ltb v 10) refl (decimal-length (suc k) (v / 10) ((div-lt_iff_lt-mul (omega arith)).1 (rw pow-suc at h)) (omega arith))
  where
    step : (b : Bool) → ltb v 10 ≡ b → length (decimal (v / 10)) ≤ suc k → length (decimal v) ≤ suc (suc k)
    step true e shorter = rw (decimal_digit v (ltb-true v 10 e)) (omega arith)
    step false e shorter = rw (decimal-next v (ltb-false v 10 e), length-append) (omega arith)

pub word-length : (v : ℕ) → v < 2 ^ 32 → length (decimal v) ≤ 10
word-length v h = decimal-length 10 v (omega arith) (omega arith)

pub long_length : (v : ℕ) → v < 2 ^ 64 → length (decimal v) ≤ 20
long_length v h = decimal-length 20 v (omega arith) (omega arith)

pub decimal-printed : (v : ℕ) → v < 2 ^ 64 → decimal v ≡ printed v
unfolding decimal
decimal-printed v h =
    decimal_from_appends decimal_within (record { one = within_digit; more = within-next }) (suc v) v h
    (omega (arith, length-decimal-le_succ v h))
