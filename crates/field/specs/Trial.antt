-- Trial division by 2 and then by the odd numbers up to the square root.
--
--   Tried p d        p is odd and above 1, d is odd, and no number from 2 to d - 1 divides p
--   tried-three      before 3 is tried
--   tried-next       d does not divide p: on to d + 2
--   tried-room       while the square of d is at most p, so is three times d
--   tried_divided    d divides p: p is not prime
--   tried-prime      the square of d is above p: p is prime
--   undivided_by     a divisor of p has no divisor that p has not
--   divided_prime    of the numbers that a prime q divides only q is prime
-- Assumes nothing.
use Rattle.std.specs.Prelude.{ℕ, ◌+◌, ◌*◌, ◌%◌, ◌<◌, ◌≤◌, eqb, true, false, ◌≢◌, ◌≡◌}
use Rattle.std.proofs.Common.{eq-eqb, ne_eqb, sym, ◌∙◌, le_trans, mul-le-mul, mul-le-mul_left, arith}
use Rattle.std.proofs.Math.Decide.{dec_lt, ℕ_discrete}
use Rattle.std.proofs.Math.Nat.{dvd_of_mod-eq-zero, le_of_dvd, mod-mod_of_dvd, zero-mod}
use Rattle.algebra.specs.Prime.{is_prime_true, is_prime_false, not_prime, prime_by_trial, prime_of_test}
use Rattle.definition.specs.Prime.{is_prime}

pub record Tried (p d : ℕ) : Type 0 where
  pub above-one : 1 < p
  pub odd : p % 2 ≢ 0
  pub past_two : 2 < d
  pub next-odd : d % 2 ≡ 1
  pub undivided : (k : ℕ) → 1 < k → k < d → p % k ≢ 0

pub tried-three : (p : ℕ) → 1 < p → p % 2 ≢ 0 → Tried p 3
tried-three p l odd =
    record {
      above-one = l;
      odd = odd;
      past_two = omega arith;
      next-odd = omega arith;
      undivided = λ k low high. let two : k ≡ 2 = omega arith in rw two odd;
    }

pub undivided_by : (p k q : ℕ) → p % q ≢ 0 → p % k ≡ 0 → k % q ≢ 0
undivided_by p k q here e divided = here (sym (mod-mod_of_dvd q p (dvd_of_mod-eq-zero q divided)) ∙ rw (e, zero-mod))

module _ {p d : ℕ} (t : Tried p d) where
  pub tried-next : p % d ≢ 0 → Tried p (d + 2)
  tried-next here =
      record {
        above-one = t.above-one;
        odd = t.odd;
        past_two = omega arith;
        next-odd = omega (arith, t.next-odd);
        undivided = λ k low high. go k low high (dec_lt k d) (ℕ_discrete k d);
      }
    where
      go : (k : ℕ) → 1 < k → k < d + 2 → Dec (k < d) → Dec (k ≡ d) → p % k ≢ 0
      go k low high (yes below) _ = t.undivided k low below
      go k low high (no above) (yes e) = rw e here
      go k low high (no above) (no other) = λ e. undivided_by p k 2 t.odd e (omega (arith, t.next-odd))

  pub tried-room : d * d ≤ p → d * 3 ≤ p
  tried-room h = le_trans (mul-le-mul_left d t.past_two) h

  pub tried_divided : d * d ≤ p → p % d ≡ 0 → is_prime p ≡ false
  tried_divided h e =
      is_prime_false p (not_prime d (omega (arith, t.past_two)) (omega (arith, t.past_two, tried-room h)) e)

  pub tried-prime : p < d * d → is_prime p ≡ true
  tried-prime past = is_prime_true (prime_by_trial p t.above-one (λ k low square. t.undivided k low (small k square (dec_lt k d))))
    where
      small : (k : ℕ) → k * k ≤ p → Dec (k < d) → k < d
      small k square (yes below) = below
      small k square (no above) =
          let larger : d * d ≤ k * k = mul-le-mul (omega arith) (omega arith) in absurd (omega (arith, past))

pub divided_prime : (p q : ℕ) → is_prime q ≡ true → 1 < p → p % q ≡ 0 → eqb p q ≡ is_prime p
divided_prime p q prime l divided = go (ℕ_discrete p q)
  where
    go : Dec (p ≡ q) → eqb p q ≡ is_prime p
    go (yes e) = eq-eqb p q e ∙ rw (e, prime)
    go (no other) =
        let most : q ≤ p = le_of_dvd (omega arith) (dvd_of_mod-eq-zero q divided) in
        ne_eqb p q other
        ∙ sym (is_prime_false p (not_prime q (prime_of_test q prime).above-one (omega arith) divided))
