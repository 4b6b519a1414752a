-- The lists of a job file, and what the tests 12 and 13 tell of a file that they let pass.
--
--   placed                     a number of a list that is not misplaced lies in the file
--   list_read                  a list that is read number by number
--   length-list_at              the length of a list of the file
--   Stated file k places       the list whose count and offset are the numbers k and k + 1 of the header lies in the file
--   Front file k list count    that list stands in the first places of another
--   stated-length, front_read  it is read there
--   header-large               the test 12, of a file that is not too long and has a whole header
--   Accepted file              neither test fires; then:
--   whole                      the header is whole
--   small-order, small-outer, small-inner    the order and the counts are at most 64
--   outer-stated, inner-stated               either list has room in 64 places
-- Assumes nothing.
use Rattle.std.specs.Prelude.{ℕ, ◌+◌, ◌*◌, ◌<◌, ◌≤◌, eqb, length, take, false, ◌||◌, List, ◌++◌, ◌≡◌}
use Rattle.std.proofs.Common.{arith, length-append, length-take-le, take_at, ap, ◌∙◌}
use borrow.Author.Tests.{le-leb, le-ltb, ltb-false, ne_eqb}
use Rattle.std.proofs.Math.Dec.{ltb}
use Rattle.std.proofs.Math.Path.{sym}
use Rattle.algebra.specs.Lists.{length-tabulate}
use Rattle.buffer.specs.Filling.{Filling, filling_last}
use Rattle.buffer.specs.Written.{sets-whole}
use Rattle.definition.specs.Job.{cut_short, field, header_bytes, list_at, misplaced, most_bytes, most_places, order, too_large, word_of}
use Rattle.refusal_tests.specs.Tests.{either_false}

pub placed : (file : List ℕ) (count at : ℕ) → misplaced file count at ≡ false → (i : ℕ) → i < count → at + 4 * i + 4 ≤ length file
unfolding header_bytes misplaced
placed file count at fits i h =
    let filled : eqb count 0 ≡ false = ne_eqb count 0 (λ e. omega arith) in
    let inside = (either_false (ltb at 28) _ (rw filled at fits)).1 in
    omega (arith, ltb-false (length file) (at + 4 * count) inside)

pub list_read : (file : List ℕ) (at : ℕ) {list list' : List ℕ} {i : ℕ} → Filling (word_of file at) 0 (length list) list list' i → length list ≤ i
    → list' ≡ list_at file (length list) at
unfolding list_at
list_read file at {list} filling past = filling_last filling past ∙ sets-whole list _ (length-tabulate (length list) (word_of file at))

-- the list whose count and offset are the numbers k and k + 1 of the header lies in the file, and its count is at most `places`
pub record Stated (file : List ℕ) (k places : ℕ) : Type 0 where
  pub header : 28 ≤ length file
  pub number : k + 1 < 7
  pub room : field file k ≤ places
  pub lies : misplaced file (field file k) (field file (k + 1)) ≡ false

-- the first places of `list` are that list
pub record Front (file : List ℕ) (k : ℕ) (list : List ℕ) (count : ℕ) : Type 0 where
  pub counts : count ≡ field file k
  pub fits : count ≤ length list
  pub first : take count list ≡ list_at file (field file k) (field file (k + 1))

pub length-list_at : (file : List ℕ) (count at : ℕ) → length (list_at file count at) ≡ count
unfolding list_at
length-list_at file count at = length-tabulate count (word_of file at)

module _ {file : List ℕ} {k count : ℕ} (list : List ℕ) (stated : Stated file k (length list)) (counted : count ≡ field file k) where
  pub stated-length : length (take count list) ≡ count
  stated-length = length-take-le count list (omega (arith, stated.room))

  pub front_read : {part : List ℕ} {at : ℕ} (rest : List ℕ) → at ≡ field file (k + 1) → part ≡ list_at file (length (take count list)) at
      → Front file k (part ++ rest) count
  front_read {part} {at} rest offset same =
      let size : length part ≡ count = ap length same ∙ length-list_at file (length (take count list)) at ∙ stated-length in
      record {
        counts = counted;
        fits = omega (arith, length-append part rest, size);
        first = take_at part rest count size ∙ same ∙ rw (stated-length, counted, offset);
      }

pub header-large : (file : List ℕ) → length file ≤ most_bytes → 28 ≤ length file
    → too_large file ≡ (ltb most_places (order file) || ltb most_places (field file 3) || ltb most_places (field file 5))
unfolding header_bytes too_large
header-large file short whole = rw (le-ltb most_bytes (length file) short, le-leb 28 (length file) whole)

pub record Accepted (file : List ℕ) : Type 0 where
  pub large : too_large file ≡ false
  pub short : cut_short file ≡ false

module _ {file : List ℕ} (accepted : Accepted file) where
  header-lists : ((ltb (length file) header_bytes ≡ false) × (misplaced file (field file 3) (field file 4) ≡ false))
      × (misplaced file (field file 5) (field file 6) ≡ false)
  unfolding cut_short
  header-lists =
      let (first, inner) = either_false _ _ accepted.short in
      (either_false _ _ first, inner)

  pub whole : 28 ≤ length file
  unfolding header_bytes
  whole = ltb-false (length file) 28 header-lists.0.0

  stated : ((order file ≤ most_places) × (field file 3 ≤ most_places)) × (field file 5 ≤ most_places)
  unfolding too_large
  stated =
      let short = ltb-false most_bytes (length file) (either_false (ltb most_bytes (length file)) _ accepted.large).0 in
      let header = sym (header-large file short whole) ∙ accepted.large in
      let (first, inner) = either_false (ltb most_places (order file) || ltb most_places (field file 3)) (ltb most_places (field file 5)) header in
      let (stated-order, outer) = either_false (ltb most_places (order file)) (ltb most_places (field file 3)) first in
      ((ltb-false most_places _ stated-order, ltb-false most_places _ outer), ltb-false most_places _ inner)

  pub small-order : order file ≤ most_places
  small-order = stated.0.0

  pub small-outer : field file 3 ≤ most_places
  small-outer = stated.0.1

  pub small-inner : field file 5 ≤ most_places
  small-inner = stated.1

  pub outer-stated : {places : ℕ} → most_places ≡ places → Stated file 3 places
  outer-stated enough = record { header = whole; number = omega arith; room = rw (← enough) small-outer; lies = header-lists.0.1 }

  pub inner-stated : {places : ℕ} → most_places ≡ places → Stated file 5 places
  inner-stated enough = record { header = whole; number = omega arith; room = rw (← enough) small-inner; lies = header-lists.1 }
