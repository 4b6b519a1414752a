-- A test, made to be computed, that a list holds the largest primes below a bound, largest first.
--
--   trial k q d r    none of the k numbers d, d + 2, d + 4 and on divides q, where r is the remainder by d
--   reach            an odd number whose square is above the largest modulus
--   quick q          q is odd, and no odd number from 3 to below `reach` divides it; soon false where one does
--   quick-is_prime    that is the test of primality, for q from `reach` to below its square
--   rest k Q d a     the product of a and the k numbers d, d + 2, d + 4 and on modulo Q
--   coprime k a b    Euclid's algorithm on a and b ends at 1 within k steps
--   free Q           no odd number from 3 to below `reach` divides Q, by one pass for all the primes whose product Q is
--   Next b q         q is the largest prime below b
--   next-below       it is what `prime_below` finds
--   gaps b t         the entries of t fall from below b, are odd, and each number between is divided by one below `reach`
--   sieved b t       the test: each entry of t is the largest prime below the entry before it, the first below b
--   sieved-next      what the test says of each entry
--   sieved-below     a list that passes is what `primes_below` finds
-- Assumes nothing.
use Prim.Native.Nat.{ℕ, zero, suc, ◌+◌, ◌-◌, ◌*◌, ◌/◌, ◌%◌, ◌<◌, ◌≤◌, ◌∣◌}
use Rattle.std.proofs.Common.{eqb-true, leb-true, ltb-true, true≢false, sym, ap, ◌∙◌, add-suc, add-zero, mul-le-mul}
use Rattle.std.proofs.lemmas.Bool.{not-true, false≢true}
use Rattle.std.specs.Prelude.{eqb, leb, ltb, length, get_or, Bool, true, false, not, ◌&&◌, ◌≢◌, ◌≡◌}
use Rattle.std.proofs.Math.Bool.{and-eq-true_iff}
use mathlib.Core.List.{List, [], ◌∷◌}
use Rattle.std.proofs.Math.Path.{refl}
use Rattle.std.proofs.Math.Decide.{dec_lt, ℕ_discrete}
use Rattle.std.proofs.Math.Nat.{dvd-mod_iff, dvd-mul_right_of_dvd, dvd_of_mod-eq-zero, dvd_refl, dvd_trans, dvd-zero, dvd-mul_left, dvd-mul_right, eq-one_of_dvd-one}
use native.Mathlib.Omega.{arith}
use Rattle.algebra.specs.Prime.{is_prime_false, is_prime_true, not_prime, prime_by_trial}
use Rattle.definition.specs.Prime.{Prime, is_prime}
use Rattle.definition.specs.PrimeTable.{prime_below, primes_below}
use Rattle.field.specs.Trial.{Tried, tried-three, tried-next, tried-prime, undivided_by}

unfoldable pub trial : ℕ → ℕ → ℕ → ℕ → Bool
trial zero q d r = true
trial (suc k) q d zero = false
trial (suc k) q d (suc r) = trial k q (d + 2) (q % (d + 2))

-- division up to an odd number e whose square is above q
trial-is_prime : (q e : ℕ) → e ≤ q → q < e * e → (k d r : ℕ) → Tried q d → q % d ≡ r → d + 2 * k ≡ e → trial k q d r ≡ is_prime q
unfolding trial
trial-is_prime q e low high zero d r t m at = let end : d ≡ e = omega arith in sym (tried-prime t (rw end high))
trial-is_prime q e low high (suc k) d zero t m at = sym (is_prime_false q (not_prime d (omega arith) (omega arith) m))
trial-is_prime q e low high (suc k) d (suc r) t m at =
    trial-is_prime q e low high k (d + 2) (q % (d + 2)) (tried-next t (λ z. omega arith)) refl (omega arith)

abbrev tries : ℕ
tries = 32767

abbrev pub reach : ℕ
reach = 3 + 2 * tries

-- the same with r the remainder by 2
unfoldable pub odd_trial : ℕ → ℕ → Bool
odd_trial q zero = false
odd_trial q (suc r) = trial tries q 3 (q % 3)

unfoldable pub quick : ℕ → Bool
quick q = odd_trial q (q % 2)

quick-is_prime : (q : ℕ) → reach ≤ q → q < reach * reach → quick q ≡ is_prime q
unfolding quick odd_trial
quick-is_prime q low high = go (q % 2) refl
  where
    go : (r : ℕ) → q % 2 ≡ r → odd_trial q r ≡ is_prime q
    go zero even = sym (is_prime_false q (not_prime 2 (omega arith) (omega arith) even))
    go (suc r) odd =
        trial-is_prime q reach low high tries 3 (q % 3)
        (tried-three q (omega arith) (λ z. omega arith)) refl refl

unfoldable pub rest : ℕ → ℕ → ℕ → ℕ → ℕ
rest zero Q d a = a
rest (suc k) Q d zero = 0
rest (suc k) Q d (suc a) = rest k Q (d + 2) (suc a * d % Q)

unfoldable pub coprime : ℕ → ℕ → ℕ → Bool
coprime zero a b = false
coprime (suc k) a zero = eqb a 1
coprime (suc k) a (suc b) = coprime k (suc b) (a % suc b)

unfoldable pub free : ℕ → Bool
free Q = coprime 1024 Q (rest tries Q 3 1)

coprime-one : (k a b m : ℕ) → coprime k a b ≡ true → m ∣ a → m ∣ b → m ≡ 1
unfolding coprime
coprime-one zero a b m c u v = absurd (false≢true c)
coprime-one (suc k) a zero m c u v = eq-one_of_dvd-one (rw (eqb-true a 1 c) at u)
coprime-one (suc k) a (suc b) m c u v = coprime-one k (suc b) (a % suc b) m c v ((dvd-mod_iff m v).1 u)

module _ (Q m : ℕ) (h : m ∣ Q) where
  rest-kept : (k d a : ℕ) → m ∣ a → m ∣ rest k Q d a
  unfolding rest
  rest-kept zero d a u = u
  rest-kept (suc k) d zero u = dvd-zero m
  rest-kept (suc k) d (suc a) u =
      rest-kept k (d + 2) (suc a * d % Q) ((dvd-mod_iff m h).1 (dvd-mul_right_of_dvd m u d))

  rest_divided : (k d a i : ℕ) → i < k → d + 2 * i ≡ m → m ∣ rest k Q d a
  unfolding rest
  rest_divided zero d a i l e = absurd (omega arith)
  rest_divided (suc k) d zero i l e = dvd-zero m
  rest_divided (suc k) d (suc a) zero l e =
      let here : d ≡ m = omega arith in
      rest-kept k (d + 2) (suc a * d % Q) ((dvd-mod_iff m h).1 (rw here (dvd-mul_left m (suc a))))
  rest_divided (suc k) d (suc a) (suc i) l e = rest_divided k (d + 2) (suc a * d % Q) i (omega arith) (omega arith)

free-prime : (Q q : ℕ) → free Q ≡ true → q ∣ Q → q % 2 ≡ 1 → 1 < q → q < reach * reach → Prime q
unfolding free
free-prime Q q c h odd low high = prime_by_trial q low (λ d l square e. go d l square e (dec_lt d reach))
  where
    go : (d : ℕ) → 1 < d → d * d ≤ q → q % d ≡ 0 → Dec (d < reach) → ⊥
    go d l square e (no far) =
        let above : reach ≤ d = omega arith in
        let larger : reach * reach ≤ d * d = mul-le-mul above above in
        omega arith
    go d l square e (yes near) =
        let other : d % 2 ≢ 0 = undivided_by q d 2 (omega arith) e in
        let v : d ∣ Q = dvd_trans d (dvd_of_mod-eq-zero d e) h in
        let one : d ≡ 1 =
        coprime-one 1024 Q (rest tries Q 3 1) d c v
        (rest_divided Q d v tries 3 1 ((d - 3) / 2) (omega arith) (omega arith)) in
        omega arith

pub record Next (b q : ℕ) : Type 0 where
  pub below : q < b
  pub prime : Prime q
  pub none : (r : ℕ) → q < r → r < b → Prime r → ⊥

-- the search from j places above a prime q, over numbers that are not prime
search_down : (q j : ℕ) → is_prime q ≡ true → ((r : ℕ) → q < r → r < suc (q + j) → is_prime r ≡ false) → prime_below (suc (q + j)) ≡ q
unfolding prime_below
search_down q zero p none = rw (add-zero, p)
search_down q (suc j) p none =
    rw (none (q + suc j) (omega arith) (omega arith), add-suc) (search_down q j p (λ r l h. none r l (omega arith)))

pub next-below : (b q : ℕ) → Next b q → prime_below b ≡ q
next-below b q n =
    let j : b ≡ suc (q + (b - suc q)) = omega (arith, n.below) in
    rw j (search_down q (b - suc q) (is_prime_true n.prime) (λ r l h. is_prime_false r (n.none r l (omega arith))))

-- the j numbers from q on are not prime
unfoldable pub composites : ℕ → ℕ → Bool
composites zero q = true
composites (suc j) q = not (quick (q + j)) && composites j q

unfoldable pub product : List ℕ → ℕ
product [] = 1
product (q ∷ t) = q * product t

unfoldable pub gaps : ℕ → List ℕ → Bool
gaps b [] = true
gaps b (q ∷ t) = leb reach q && (ltb q b && (eqb (q % 2) 1 && (composites (b - suc q) (suc q) && gaps q t)))

unfoldable pub sieved : ℕ → List ℕ → Bool
sieved b t = free (product t) && gaps b t

composites-none : (j q : ℕ) → reach ≤ q → q + j ≤ reach * reach → composites j q ≡ true → (r : ℕ) → q ≤ r → r < q + j → Prime r → ⊥
unfolding composites
composites-none zero q low high t r l h = absurd (omega arith)
composites-none (suc j) q low high t r l h = go (ℕ_discrete r (q + j)) (composites-none j q low (omega arith) passed.1 r l)
  where
    passed : (not (quick (q + j)) ≡ true) × (composites j q ≡ true)
    passed = (and-eq-true_iff (not (quick (q + j))) (composites j q)).0 t

    top : is_prime (q + j) ≡ false
    top = sym (quick-is_prime (q + j) (omega arith) (omega arith)) ∙ not-true (quick (q + j)) passed.0

    go : Dec (r ≡ q + j) → (r < q + j → Prime r → ⊥) → Prime r → ⊥
    go (yes e) next prime = true≢false (sym (is_prime_true prime) ∙ rw e top)
    go (no other) next prime = next (omega arith) prime

all_true : (a b c d e : Bool) → (a && (b && (c && (d && e)))) ≡ true
    → (a ≡ true) × (b ≡ true) × (c ≡ true) × (d ≡ true) × (e ≡ true)
all_true true true true true e s = (refl, refl, refl, refl, s)
all_true true true true false e s = absurd (false≢true s)
all_true true true false d e s = absurd (false≢true s)
all_true true false c d e s = absurd (false≢true s)
all_true false b c d e s = absurd (false≢true s)

module _ (b q : ℕ) (t : List ℕ) (high : b ≤ reach * reach) (s : gaps b (q ∷ t) ≡ true) where
  passed : (leb reach q ≡ true) × (ltb q b ≡ true) × (eqb (q % 2) 1 ≡ true) × (composites (b - suc q) (suc q) ≡ true) × (gaps q t ≡ true)
  unfolding gaps
  passed = all_true (leb reach q) (ltb q b) (eqb (q % 2) 1) (composites (b - suc q) (suc q)) (gaps q t) s

  low : reach ≤ q
  low = leb-true reach q passed.0

  under : q < b
  under = ltb-true q b passed.1

  gap : (Q : ℕ) → free Q ≡ true → q ∣ Q → Next b q
  gap Q c h =
      record {
        below = under;
        prime = free-prime Q q c h (eqb-true (q % 2) 1 passed.2) (omega (arith, low)) (omega (arith, under));
        none = λ r l h. composites-none (b - suc q) (suc q) (omega (arith, low)) (omega (arith, under)) passed.3 r l (omega (arith, under));
      }

module _ (Q : ℕ) (c : free Q ≡ true) where
  gaps-next : (b : ℕ) (t : List ℕ) → b ≤ reach * reach → gaps b t ≡ true → product t ∣ Q → (i : ℕ) → i < length t
      → Next (get_or (b ∷ t) i 0) (get_or t i 0)
  unfolding product
  gaps-next b [] high s h i l = absurd (omega arith)
  gaps-next b (q ∷ t) high s h zero l = gap b q t high s Q c (dvd_trans q (dvd-mul_right q (product t)) h)
  gaps-next b (q ∷ t) high s h (suc i) l =
      gaps-next q t (omega (arith, under b q t high s)) (passed b q t high s).4
      (dvd_trans (product t) (dvd-mul_left (product t) q) h) i (omega arith)

  gaps-below : (b : ℕ) (t : List ℕ) → b ≤ reach * reach → gaps b t ≡ true → product t ∣ Q → primes_below (length t) b ≡ t
  unfolding primes_below product
  gaps-below b [] high s h = refl
  gaps-below b (q ∷ t) high s h =
      rw (next-below b q (gap b q t high s Q c (dvd_trans q (dvd-mul_right q (product t)) h)))
      (ap (λ (l : List ℕ). q ∷ l)
      (gaps-below q t (omega (arith, under b q t high s)) (passed b q t high s).4
      (dvd_trans (product t) (dvd-mul_left (product t) q) h)))

module _ (b : ℕ) (t : List ℕ) (high : b ≤ reach * reach) (s : sieved b t ≡ true) where
  both : (free (product t) ≡ true) × (gaps b t ≡ true)
  unfolding sieved
  both = (and-eq-true_iff (free (product t)) (gaps b t)).0 s

  pub sieved-next : (i : ℕ) → i < length t → Next (get_or (b ∷ t) i 0) (get_or t i 0)
  sieved-next = gaps-next (product t) both.0 b t high both.1 (dvd_refl (product t))

  pub sieved-below : primes_below (length t) b ≡ t
  sieved-below = gaps-below (product t) both.0 b t high both.1 (dvd_refl (product t))
