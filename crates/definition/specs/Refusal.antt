-- The number that a call returns: 0 where it is accepted, else the number of the first test that fires. Each call is the list of its tests,
-- in the order in which they are made: 1 to 11 ascending, as in 01, and a number of a request straight after the one that it names. Lists come as
-- lists of numbers; of an output or a work buffer only the count of places is read.
--
--   first tests          the number of the first test that fires, or 0
--   compose_refusal, reverse_refusal, open_refusal, cycle_refusal, table_refusal, render_refusal   the number of each call
--   work_places each n m  so many places of work for each power of x below the order n, and 8 for each of m coefficients
--   compose_work n m      the places of work that compose and reverse ask for
--   cycle_work n m        the places of work that a cycle asks for
use Rattle.std.specs.Prelude.{ℕ, ◌+◌, ◌*◌, Bool, false, cond, not, ◌&&◌, ◌||◌, List, [], ◌∷◌, leb, ltb, eqb, length}
use Rattle.definition.specs.Chain.{Chain}
use Rattle.definition.specs.Lists.{coefficient}
use Rattle.definition.specs.Prime.{is_prime, largest_modulus}

-- a number and the test that gives it
pub record Test : Type 0 where
  pub number : ℕ
  pub fires : Bool

unfoldable pub test : ℕ → Bool → Test
test n b = record { number = n; fires = b }

unfoldable pub first : List Test → ℕ
first [] = 0
first (t ∷ ts) = cond t.fires t.number (first ts)

-- the largest order, and the longest list that a call takes
abbrev pub limit : ℕ
limit = 4096

-- the longest block of route 2
abbrev pub longest_block : ℕ
longest_block = 64

-- the most cycles of a chain
abbrev pub most_cycles : ℕ
most_cycles = 64

abbrev pub work_places : ℕ → ℕ → ℕ → ℕ
work_places each n m = each * n + 8 * m

abbrev pub compose_work : ℕ → ℕ → ℕ
compose_work n m = work_places 128 n m

abbrev pub cycle_work : ℕ → ℕ → ℕ
cycle_work n m = work_places 144 n m

-- 1: the route is not 1, 2, 3 or 4
unfoldable pub bad_route : ℕ → Bool
bad_route route = eqb route 0 || ltb 4 route

-- 15: the route is 2, and its block length b is 0 or above the longest
unfoldable pub bad_block : ℕ → ℕ → Bool
bad_block route b = eqb route 2 && (eqb b 0 || ltb longest_block b)

-- 2: p is not prime, or above the largest modulus
unfoldable pub bad_modulus : ℕ → Bool
bad_modulus p = ltb largest_modulus p || not (is_prime p)

-- 3: n is 0 or above the limit
unfoldable pub bad_order : ℕ → Bool
bad_order n = eqb n 0 || ltb limit n

-- 4 and 5: a list is longer than the limit
unfoldable pub too_long : List ℕ → Bool
too_long l = ltb limit (length l)

-- 6: a list has not exactly n places
unfoldable pub not_places : ℕ → ℕ → Bool
not_places n places = not (eqb places n)

-- 8: a coefficient of the list is p or more
unfoldable pub exceeds : ℕ → List ℕ → Bool
exceeds p [] = false
exceeds p (c ∷ l) = leb p c || exceeds p l

-- 9: no h without constant term has g(h) = x modulo x^n
unfoldable pub irreversible : ℕ → List ℕ → Bool
irreversible n g = not (eqb (coefficient g 0) 0) || ltb 1 n && eqb (coefficient g 1) 0

-- 10: the constant term is not zero
unfoldable pub has_constant : List ℕ → Bool
has_constant l = not (eqb (coefficient l 0) 0)

-- b is the block length of route 2
unfoldable pub compose_refusal : ℕ → ℕ → ℕ → ℕ → List ℕ → List ℕ → ℕ → ℕ → ℕ
compose_refusal route b p n f g places work =
    first
    (test 1 (bad_route route)
    ∷ test 15 (bad_block route b)
    ∷ test 2 (bad_modulus p)
    ∷ test 3 (bad_order n)
    ∷ test 4 (too_long f)
    ∷ test 5 (too_long g)
    ∷ test 6 (not_places n places)
    ∷ test 7 (ltb work (compose_work n (length f)))
    ∷ test 8 (exceeds p f || exceeds p g)
    ∷ [])

unfoldable pub reverse_refusal : ℕ → ℕ → List ℕ → ℕ → ℕ → ℕ
reverse_refusal p n g places work =
    first
    (test 2 (bad_modulus p)
    ∷ test 3 (bad_order n)
    ∷ test 5 (too_long g)
    ∷ test 6 (not_places n places)
    ∷ test 7 (ltb work (compose_work n (length g)))
    ∷ test 8 (exceeds p g)
    ∷ test 9 (irreversible n g)
    ∷ [])

unfoldable pub open_refusal : ℕ → ℕ → ℕ → ℕ
open_refusal p n places = first (test 2 (bad_modulus p) ∷ test 3 (bad_order n) ∷ test 6 (not_places n places) ∷ [])

-- a cycle c of a chain whose running series is s; b is the block length of route 2
unfoldable pub cycle_refusal : ℕ → ℕ → Chain → List ℕ → List ℕ → ℕ → ℕ
cycle_refusal route b chain c s work =
    first
    (test 1 (bad_route route)
    ∷ test 15 (bad_block route b)
    ∷ test 2 (bad_modulus chain.modulus)
    ∷ test 3 (bad_order chain.order)
    ∷ test 5 (too_long c)
    ∷ test 6 (not_places chain.order (length s))
    ∷ test 7 (ltb work (cycle_work chain.order (length c)))
    ∷ test 8 (exceeds chain.modulus c || exceeds chain.modulus s)
    ∷ test 10 (has_constant c || has_constant s)
    ∷ test 11 (leb most_cycles chain.done)
    ∷ [])

unfoldable pub table_refusal : ℕ → ℕ
table_refusal index = first (test 14 (leb 16 index) ∷ [])

-- rendering a text of `bytes` bytes into a buffer of `text` places: a refusal number meets only 7
unfoldable pub render_refusal : ℕ → ℕ → ℕ → ℕ → ℕ → ℕ
render_refusal number n places bytes text =
    first
    (test 3 (eqb number 0 && bad_order n)
    ∷ test 6 (eqb number 0 && not_places n places)
    ∷ test 7 (ltb text bytes)
    ∷ [])
