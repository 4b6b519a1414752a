-- The job file: seven 32-bit little-endian numbers (route, modulus, order, outer count, outer offset, inner count, inner offset) and the
-- lists at their offsets, bytes from the file's start. A job has no block length of its own.
--
--   word file i             the number in the four bytes from place i on
--   field file k            number k of the header
--   list_at file count at    the list of so many numbers from place `at` on
--   job_refusal file         the number of the answer: 12, then 13, then what compose returns
--   job_text file            the whole answer
use Rattle.std.specs.Prelude.{ℕ, ◌+◌, ◌*◌, Bool, cond, not, ◌&&◌, ◌||◌, List, leb, ltb, eqb, length}
use Rattle.definition.specs.Lists.{tabulate, coefficient}
use Rattle.definition.specs.Substitution.{composed}
use Rattle.definition.specs.Ranged.{block_length}
use Rattle.definition.specs.Weight.{weight}
use Rattle.definition.specs.Refusal.{compose_refusal, compose_work}
use Rattle.definition.specs.Text.{rendered}

unfoldable pub header_bytes : ℕ
header_bytes = 28

-- the longest file, and the largest order and count that a header may state
abbrev pub most_bytes : ℕ
most_bytes = 4096

abbrev pub most_places : ℕ
most_places = 64

unfoldable pub word : List ℕ → ℕ → ℕ
word file i =
    coefficient file i
    + 256 * coefficient file (i + 1)
    + 65536 * coefficient file (i + 2)
    + 16777216 * coefficient file (i + 3)

unfoldable pub field : List ℕ → ℕ → ℕ
field file k = word file (4 * k)

unfoldable pub route : List ℕ → ℕ
route file = field file 0

unfoldable pub modulus : List ℕ → ℕ
modulus file = field file 1

unfoldable pub order : List ℕ → ℕ
order file = field file 2

unfoldable pub word_of : List ℕ → ℕ → ℕ → ℕ
word_of file at i = word file (at + 4 * i)

unfoldable pub list_at : List ℕ → ℕ → ℕ → List ℕ
list_at file count at = tabulate count (word_of file at)

unfoldable pub outer : List ℕ → List ℕ
outer file = list_at file (field file 3) (field file 4)

unfoldable pub inner : List ℕ → List ℕ
inner file = list_at file (field file 5) (field file 6)

-- 12: the file is longer than 4096 bytes, or its header, if it is whole, states an order or a count above 64
unfoldable pub too_large : List ℕ → Bool
too_large file =
    ltb most_bytes (length file)
    || leb header_bytes (length file)
    && (ltb most_places (order file) || ltb most_places (field file 3) || ltb most_places (field file 5))

-- a list of so many numbers from place `at` on that is not empty, and begins in the header or does not lie wholly in the file
unfoldable pub misplaced : List ℕ → ℕ → ℕ → Bool
misplaced file count at = not (eqb count 0) && (ltb at header_bytes || ltb (length file) (at + 4 * count))

-- 13: the header is cut short, or a list is misplaced
unfoldable pub cut_short : List ℕ → Bool
cut_short file =
    ltb (length file) header_bytes
    || misplaced file (field file 3) (field file 4)
    || misplaced file (field file 5) (field file 6)

-- what compose returns for the job, with an output of exactly n places and enough work
unfoldable pub compose_number : List ℕ → ℕ
compose_number file =
    compose_refusal (route file) block_length (modulus file) (order file) (outer file) (inner file) (order file)
    (compose_work (order file) (field file 3))

unfoldable pub job_refusal : List ℕ → ℕ
job_refusal file = cond (too_large file) 12 (cond (cut_short file) 13 (compose_number file))

unfoldable pub job_text : List ℕ → List ℕ
job_text file =
    rendered (job_refusal file) (order file) (weight (route file) block_length (modulus file) (order file) (field file 3))
    (composed (modulus file) (order file) (outer file) (inner file))
