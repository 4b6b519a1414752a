-- What each call promises, for every input: the number that it returns, what it returns beside it, and what each buffer lent to it holds
-- afterwards. A name with a prime (') is a value after the call. p is the modulus, n the order, b the block length of route 2.
--
--   Compose   compose: the outer list f, the inner list g, the output, the work buffer
--   Reverse   reverse: the series g, the output, the work buffer
--   Open      the opening of a chain, with the running buffer s
--   Cycle     a cycle of a chain, by its record, the cycle list c, the running buffer s, the work buffer
--   Length    what compose, reverse and a cycle return beside: the effective length of the list l that they leave in the output or the
--             running buffer
--   Table     the table of primes
--   Render    rendering of a refusal number, or of 0 with order, weight and coefficient list, into the text buffer
--   Job       the job program's answer to a file, in a text buffer that holds every such answer
use Rattle.std.specs.Prelude.{ℕ, List, ◌≢◌, ◌≡◌, get_or, length}
use Rattle.definition.specs.Answer.{answered, cleared, kept, overwritten}
use Rattle.definition.specs.Chain.{Chain, next_chain, opened_chain}
use Rattle.definition.specs.Job.{job_text}
use Rattle.definition.specs.Lists.{effective_length}
use Rattle.definition.specs.PrimeTable.{prime_table}
use Rattle.definition.specs.Refusal.{
  compose_refusal,
  compose_work,
  cycle_refusal,
  cycle_work,
  open_refusal,
  render_refusal,
  reverse_refusal,
  table_refusal,
}
use Rattle.definition.specs.Reversion.{Reversion, identity}
use Rattle.definition.specs.Substitution.{composed}
use Rattle.definition.specs.Text.{rendered}
use Rattle.definition.specs.Weight.{weight}

pub record Compose (route b p n : ℕ) (f g out out' work work' : List ℕ) (number weight' : ℕ) : Type 0 where
  pub refusal : number ≡ compose_refusal route b p n f g (length out) (length work)
  pub weighs : weight' ≡ answered number (weight route b p n (length f))
  pub output : out' ≡ kept number (composed p n f g) out
  pub clears : work' ≡ kept number (cleared (compose_work n (length f)) work) work

-- an accepted call leaves the only reverse series, which is one from the other side too; number 9 comes only where there is none
pub record Reverse (p n : ℕ) (g out out' work work' : List ℕ) (number weight' : ℕ) : Type 0 where
  pub refusal : number ≡ reverse_refusal p n g (length out) (length work)
  pub weighs : weight' ≡ 0
  pub reverses : number ≡ 0 → Reversion p n g out'
  pub only : number ≡ 0 → (h : List ℕ) → Reversion p n g h → h ≡ out'
  pub symmetric : number ≡ 0 → composed p n out' g ≡ identity n
  pub none : number ≡ 9 → (h : List ℕ) → Reversion p n g h → ⊥
  pub refused : number ≢ 0 → out' ≡ out
  pub clears : work' ≡ kept number (cleared (compose_work n (length g)) work) work

pub record Open (p n : ℕ) (s s' : List ℕ) (number weight' : ℕ) (chain' : Chain) : Type 0 where
  pub refusal : number ≡ open_refusal p n (length s)
  pub weighs : weight' ≡ 0
  pub records : chain' ≡ opened_chain number p n
  pub running : s' ≡ kept number (identity n) s

-- the running series s becomes s(c), so that the earliest cycle is outermost (N3): the outer list is s, of as many places as the order
pub record Cycle (route b : ℕ) (chain : Chain) (c s s' work work' : List ℕ) (number weight' : ℕ) (chain' : Chain) : Type 0 where
  pub refusal : number ≡ cycle_refusal route b chain c s (length work)
  pub weighs : weight' ≡ answered number (weight route b chain.modulus chain.order chain.order)
  pub records : chain' ≡ next_chain number chain
  pub running : s' ≡ kept number (composed chain.modulus chain.order s c) s
  pub clears : work' ≡ kept number (cleared (cycle_work chain.order (length c)) work) work

-- beside `Compose`, `Reverse` and `Cycle` (N5); a refusal gives 0
pub record Length (number : ℕ) (l : List ℕ) (length' : ℕ) : Type 0 where
  pub measures : length' ≡ answered number (effective_length l)

pub record Table (index number prime : ℕ) : Type 0 where
  pub refusal : number ≡ table_refusal index
  pub entry : prime ≡ answered number (get_or prime_table index 0)

pub record Render (number n weight : ℕ) (l text text' : List ℕ) (number' count : ℕ) : Type 0 where
  pub refusal : number' ≡ render_refusal number n (length l) (length (rendered number n weight l)) (length text)
  pub counts : count ≡ answered number' (length (rendered number n weight l))
  pub writes : text' ≡ kept number' (overwritten (rendered number n weight l) text) text

pub record Job (file text text' : List ℕ) (count : ℕ) : Type 0 where
  pub counts : count ≡ length (job_text file)
  pub writes : text' ≡ overwritten (job_text file) text
