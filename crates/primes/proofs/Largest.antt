-- The largest prime that is a modulus, by the test of the table's rule: no odd number below 65537 divides it, and one divides each number
-- from there to 2^32. It stands here, and not in specs/, so that another number there is refused by a proof.
--
--   largest-next      it is a prime below 2^32, and no prime lies between
--   largest-prime     it is what the search for the largest prime below 2^32 finds
--   largest_taken     number 2 does not turn it down
--   beyond_refused    number 2 turns down every number above it
-- Assumes nothing.
use Rattle.std.specs.Prelude.{ℕ, ◌*◌, ◌^◌, ◌<◌, ◌≤◌, Bool, true, false, [], ◌∷◌, ◌≡◌, refl}
use Rattle.std.proofs.Common.{lit≤, arith}
use Rattle.definition.specs.Prime.{largest_modulus}
use Rattle.definition.specs.PrimeTable.{prime_below}
use Rattle.definition.specs.Refusal.{bad_modulus}
use Rattle.field.specs.Opening.{good_modulus, prime_taken}
use Rattle.primes.specs.Sieve.{
  Next,
  composites,
  coprime,
  free,
  gaps,
  next-below,
  odd_trial,
  product,
  quick,
  reach,
  rest,
  sieved,
  sieved-next,
  trial,
}
use Rattle.primes.specs.Largest.{largest_prime}

tested : sieved (2 ^ 32) (largest_prime ∷ []) ≡ true
unfolding sieved free rest coprime product gaps composites quick odd_trial trial
tested = refl

within : 2 ^ 32 ≤ reach * reach
within = lit≤ tt

pub largest-next : Next (2 ^ 32) largest_prime
largest-next = sieved-next (2 ^ 32) (largest_prime ∷ []) within tested 0 (omega arith)

pub largest-prime : prime_below (2 ^ 32) ≡ largest_prime
largest-prime = next-below (2 ^ 32) largest_prime largest-next

pub largest_taken : bad_modulus largest_prime ≡ false
unfolding largest_modulus
largest_taken = prime_taken largest_prime largest-next.prime (lit≤ tt)

pub beyond_refused : (p : ℕ) → largest_prime < p → bad_modulus p ≡ true
unfolding largest_modulus
beyond_refused p above = go (bad_modulus p) refl
  where
    go : (b : Bool) → bad_modulus p ≡ b → bad_modulus p ≡ true
    go true e = e
    go false e =
        let (prime, most) = good_modulus p e in
        absurd (largest-next.none p above (omega arith) prime)
