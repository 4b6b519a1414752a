-- The sixteen largest primes below 2147483648, largest first.
--
--   prime_below b      the largest prime below b, or 0 where there is none
--   primes_below k b   the k largest primes below b, largest first
--   table_bound        2147483648: the primes of the table are below it
--   prime_table        the table
--   TableRule t       what the table's rule says of a list: sixteen primes in falling order, the first is 2147483647, and no prime is absent,
--                     neither between two entries nor between the first entry and the bound
use Rattle.std.specs.Prelude.{ℕ, zero, suc, ◌-◌, ◌^◌, ◌<◌, ◌≡◌, cond, List, [], ◌∷◌, length, get_or}
use Rattle.definition.specs.Prime.{Prime, is_prime}

unfoldable pub prime_below : ℕ → ℕ
prime_below zero = 0
prime_below (suc b) = cond (is_prime b) b (prime_below b)

unfoldable pub primes_below : ℕ → ℕ → List ℕ
primes_below zero b = []
primes_below (suc k) b = prime_below b ∷ primes_below k (prime_below b)

unfoldable pub table_bound : ℕ
table_bound = 2 ^ 31

unfoldable pub prime_table : List ℕ
prime_table = primes_below 16 table_bound

pub record TableRule (t : List ℕ) : Type 0 where
  pub sixteen : length t ≡ 16
  pub first : get_or t 0 0 ≡ table_bound - 1
  pub prime : (i : ℕ) → i < 16 → Prime (get_or t i 0)
  pub falling : (i : ℕ) → suc i < 16 → get_or t (suc i) 0 < get_or t i 0
  pub none_above : (q : ℕ) → get_or t 0 0 < q → q < table_bound → Prime q → ⊥
  pub none_between : (i : ℕ) → suc i < 16 → (q : ℕ) → get_or t (suc i) 0 < q → q < get_or t i 0 → Prime q → ⊥
