-- Prime numbers: Euclid's lemma, the Boolean test, and trial division up to the square root. Assumes nothing.
--
--   prime-positive    a prime is above 0
--   euclid            a prime that divides a product and not the first factor divides the second
--   prime_by_trial    a number above 1 that no d from 2 with d d ≤ n divides is prime
--   not_prime         a number with a divisor strictly between 1 and itself is not prime
--   is_prime_true      the test is passed by a prime
--   prime_of_test     a number that passes the test is prime
--   is_prime_false     the test is failed by a number that is not prime
use Rattle.std.specs.Prelude.{ℕ, zero, suc, ◌+◌, ◌-◌, ◌*◌, ◌/◌, ◌%◌, ◌<◌, ◌≤◌, eqb, ltb, Bool, true, false, not, ◌≢◌, ◌≡◌, refl}
use Rattle.std.specs.Int.{◌∣◌}
use Rattle.std.proofs.lemmas.Bool.{eqb-false, not-true}
use Rattle.std.proofs.Common.{lt-ltb, ltb-true, ne_eqb, sym, ap, ◌∙◌, add-mul, div-add-mod', mod-lt, mul_assoc, mul-le-mul_left, mul-le-mul_right, one-mul, zero-mul, arith}
use Rattle.std.proofs.Math.Bool.{and-eq-true_iff}
use Rattle.std.proofs.Math.Decide.{dec_le, dec_lt, ℕ_discrete}
use Rattle.std.proofs.Math.Nat.{div-mul_cancel, dvd-add_iff_right, dvd-mul_left_of_dvd, dvd-mul_right, dvd_of_mod-eq-zero, le_of_dvd, mod-eq-zero_of_dvd, mul-mod_right}
use Rattle.algebra.specs.Remainder.{mod-mul-mod}
use Rattle.definition.specs.Prime.{Prime, is_prime, indivisible}

pub prime-positive : {p : ℕ} → Prime p → 0 < p
prime-positive P = omega (arith, P.above-one)

pub not_prime : {n : ℕ} (d : ℕ) → 1 < d → d < n → n % d ≡ 0 → Prime n → ⊥
not_prime {n} d l b e P = let s : d ≡ n = P.undivided d l (dvd_of_mod-eq-zero d e) in omega arith

-- Euclid's lemma for a factor a below p, by induction on a bound of a: p divides (p % a) b, since p b = (p / a) (a b) + (p % a) b
euclid-below : (bound : ℕ) {p : ℕ} → Prime p → (a b : ℕ) → a ≤ bound → 0 < a → a < p → p ∣ a * b → p ∣ b
euclid-below zero P a b f l c d = absurd (omega arith)
euclid-below (suc bound) {p} P a b f l c d = go (dec_lt 1 a) (euclid-below bound P (p % a) b)
  where
    multiple : p * b ≡ p / a * (a * b) + p % a * b
    multiple = ap (λ q. q * b) (sym (div-add-mod' p a)) ∙ rw (add-mul, mul_assoc)

    go : Dec (1 < a) → (p % a ≤ bound → 0 < p % a → p % a < p → p ∣ p % a * b → p ∣ b) → p ∣ b
    go (yes h) next =
        let r : p % a < a = mod-lt p l in
        let z : p % a ≢ 0 = λ e. not_prime a h c e P in
        next (omega arith) (omega arith) (omega arith)
        ((dvd-add_iff_right p (dvd-mul_left_of_dvd p d (p / a))).1 (rw (← multiple) (dvd-mul_right p b)))
    go (no h) next = let e : a ≡ 1 = omega arith in rw (e, one-mul) at d

pub euclid : {p : ℕ} → Prime p → (a b : ℕ) → p ∣ a * b → a % p ≢ 0 → p ∣ b
euclid {p} P a b d z =
    let below : a % p < p = mod-lt a (omega (arith, P.above-one)) in
    euclid-below p P (a % p) b (omega arith) (omega arith) below
    (dvd_of_mod-eq-zero p (mod-mul-mod a b p ∙ mod-eq-zero_of_dvd p d))

pub prime_by_trial : (n : ℕ) → 1 < n → ((d : ℕ) → 1 < d → d * d ≤ n → n % d ≢ 0) → Prime n
prime_by_trial n l h = record { above-one = l; undivided = λ d b v. at d b v (n / d) (sym (div-mul_cancel d v)) }
  where
    at : (d : ℕ) → 1 < d → d ∣ n → (c : ℕ) → n ≡ c * d → d ≡ n
    at d b v zero e = omega (arith, zero-mul d)
    at d b v (suc zero) e = omega arith
    at d b v (suc (suc c)) e = absurd (smaller (dec_le d (suc (suc c))))
      where
        smaller : Dec (d ≤ suc (suc c)) → ⊥
        smaller (yes s) = h d b (omega (arith, mul-le-mul_right d s)) (mod-eq-zero_of_dvd d v)
        smaller (no s) =
            h (suc (suc c)) (omega arith) (omega (arith, mul-le-mul_left {m = suc (suc c)} {n = d} (suc (suc c)) (omega arith)))
            (ap (λ m. m % suc (suc c)) e ∙ mul-mod_right (suc (suc c)) d)

-- the first k numbers from 2 on, one by one
indivisible_true : (n k : ℕ) → ((d : ℕ) → 1 < d → d < 2 + k → n % d ≢ 0) → indivisible n k ≡ true
unfolding indivisible
indivisible_true n zero h = refl
indivisible_true n (suc k) h =
    rw (indivisible_true n k (λ d l b. h d l (omega arith)), ne_eqb (n % (2 + k)) 0 (h (2 + k) (omega arith) (omega arith)))

undivided_of_test : (n k : ℕ) → indivisible n k ≡ true → (d : ℕ) → 1 < d → d < 2 + k → n % d ≢ 0
unfolding indivisible
undivided_of_test n zero t d l b = absurd (omega arith)
undivided_of_test n (suc k) t d l b = go (ℕ_discrete d (2 + k)) (undivided_of_test n k passed.0 d l)
  where
    passed : (indivisible n k ≡ true) × (not (eqb (n % (2 + k)) 0) ≡ true)
    passed = (and-eq-true_iff (indivisible n k) (not (eqb (n % (2 + k)) 0))).0 t

    go : Dec (d ≡ 2 + k) → (d < 2 + k → n % d ≢ 0) → n % d ≢ 0
    go (yes e) below = rw e (eqb-false (n % (2 + k)) 0 (not-true (eqb (n % (2 + k)) 0) passed.1))
    go (no z) below = below (omega arith)

pub is_prime_true : {p : ℕ} → Prime p → is_prime p ≡ true
unfolding is_prime
is_prime_true {p} P = rw (lt-ltb 1 p P.above-one, indivisible_true p (p - 2) (λ d l b e. not_prime d l (omega arith) e P))

pub prime_of_test : (p : ℕ) → is_prime p ≡ true → Prime p
unfolding is_prime
prime_of_test p t = record { above-one = above; undivided = λ d l v. go d l v (dec_lt d p) }
  where
    passed : (ltb 1 p ≡ true) × (indivisible p (p - 2) ≡ true)
    passed = (and-eq-true_iff (ltb 1 p) (indivisible p (p - 2))).0 t

    above : 1 < p
    above = ltb-true 1 p passed.0

    go : (d : ℕ) → 1 < d → d ∣ p → Dec (d < p) → d ≡ p
    go d l v (yes b) = absurd (undivided_of_test p (p - 2) passed.1 d l (omega arith) (mod-eq-zero_of_dvd d v))
    go d l v (no b) = omega (arith, le_of_dvd (omega (arith, above)) v)

pub is_prime_false : (p : ℕ) → (Prime p → ⊥) → is_prime p ≡ false
is_prime_false p h = go (is_prime p) refl
  where
    go : (b : Bool) → is_prime p ≡ b → b ≡ false
    go true e = absurd (h (prime_of_test p e))
    go false e = refl
