-- What opening a field answers: 01's number, and the modulus, of each case.
--
--   number_of, modulus_of     the number and the modulus that an answer stands for
--   field_refusal p          the number that opening a field of modulus p returns
--   Opening p answer        the contract of `Field::new`
--   opening-refused, opening_taken        the contract holds of the two answers (opening_of, of a field)
--   refused-modulus, taken_modulus        what the two answers tell of the modulus
--   good_modulus            a modulus that is not refused is a prime up to the largest modulus
--   prime_taken             and every such prime is not refused
-- Assumes nothing.
use Rattle.std.specs.Prelude.{ℕ, Option, Some, None, ◌<◌, ◌≤◌, ltb, Bool, true, false, cond, not, ◌||◌, [], ◌∷◌, ◌≡◌, refl}
use Rattle.std.proofs.Common.{le-ltb, ltb-false, true≢false, arith}
use Rattle.algebra.specs.Prime.{is_prime_true, prime-positive, prime_of_test}
use Rattle.definition.specs.Answer.{answered}
use Rattle.definition.specs.Prime.{Prime, is_prime, largest_modulus}
use Rattle.definition.specs.Refusal.{bad_modulus, first, test}
use Rattle.field.specs.declared.Field.{Field}

unfoldable pub number_of : Option Field → ℕ
number_of (Some f) = 0
number_of None = 2

unfoldable pub modulus_of : Option Field → ℕ
modulus_of (Some f) = f.modulus
modulus_of None = 0

unfoldable pub field_refusal : ℕ → ℕ
field_refusal p = first (test 2 (bad_modulus p) ∷ [])

pub record Opening (p : ℕ) (answer : Option Field) : Type 0 where
  pub number : number_of answer ≡ field_refusal p
  pub modulus : modulus_of answer ≡ answered (field_refusal p) p

pub opening-refused : (p : ℕ) → bad_modulus p ≡ true → Opening p None
unfolding number_of modulus_of field_refusal first test answered
opening-refused p bad = record { number = rw bad; modulus = rw bad }

pub refused-modulus : (p : ℕ) → Opening p None → bad_modulus p ≡ true
unfolding number_of field_refusal first test
refused-modulus p o = go (bad_modulus p) o.number
  where
    go : (b : Bool) → ◌≡◌ {A = ℕ} 2 (cond b 2 0) → b ≡ true
    go true e = refl
    go false e = absurd (omega arith)

pub taken_modulus : (p : ℕ) (f : Field) → Opening p (Some f) → (bad_modulus p ≡ false) × (f.modulus ≡ p)
unfolding number_of modulus_of field_refusal first test answered
taken_modulus p f o = go (bad_modulus p) o.number o.modulus
  where
    go : (b : Bool) → ◌≡◌ {A = ℕ} 0 (cond b 2 0) → f.modulus ≡ answered (cond b 2 0) p → (b ≡ false) × (f.modulus ≡ p)
    go true e m = absurd (omega arith)
    go false e m = (refl, m)

pub good_modulus : (p : ℕ) → bad_modulus p ≡ false → Prime p × (p ≤ largest_modulus)
unfolding bad_modulus
good_modulus p good = go (ltb largest_modulus p) (is_prime p) refl refl good
  where
    go : (above prime : Bool) → ltb largest_modulus p ≡ above → is_prime p ≡ prime → (above || not prime) ≡ false
        → Prime p × (p ≤ largest_modulus)
    go true prime e t bad = absurd (true≢false bad)
    go false true e t bad = (prime_of_test p t, ltb-false largest_modulus p e)
    go false false e t bad = absurd (true≢false bad)

pub prime_taken : (p : ℕ) → Prime p → p ≤ largest_modulus → bad_modulus p ≡ false
unfolding bad_modulus
prime_taken p prime within = rw (le-ltb largest_modulus p within, is_prime_true prime)

pub opening_of : (f : Field) → bad_modulus f.modulus ≡ false → Opening f.modulus (Some f)
unfolding number_of modulus_of field_refusal first test answered
opening_of f good = record { number = rw good; modulus = rw good }

pub opening_taken : (p : ℕ) → (good : bad_modulus p ≡ false) → Opening p (Some (record { modulus = p; positive = prime-positive (good_modulus p good).0 }))
opening_taken p good = opening_of _ good
