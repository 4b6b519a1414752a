-- The even and the odd powers of x in rows of a buffer, as parts.
--
--   rows_at r w at rows     the polynomial in so many rows of r places from `at` on
--   every_second r n at rows    the part with every second place of the rows, n of each, the first at `at`
--   every                  and the polynomial that it holds
--   results_of              rows of a product
--   part_of source_of      what is required of a part that is known by an equation
--   every-even every-odd   it is the even or the odd part of the other
--   Reading                rows that can be read
--   next_fits              the place of the first odd power does not wrap
--   lies-second lies-even lies-odd   so can their parts
--   half-positive half-size half-near   half of r, rounded up
--   blocks-few             the places that they take in blocks, where the product of both directions is at most s²
-- Assumes nothing.
use Rattle.std.specs.Prelude.{ℕ, ◌+◌, ◌-◌, ◌*◌, ◌/◌, ◌<◌, ◌≤◌, ◌^◌, Bool, false, true, List, ◌≡◌, ltb, length}
use Rattle.std.proofs.Math.Decide.{dec_lt}
use Rattle.std.proofs.Common.{add-mul, mul-add, mul_comm, mul-le-mul, mul-le-mul_left, mul-le-mul_right, one-mul, suc-mul, sym, ◌∙◌}
use Rattle.std.proofs.Math.Nat.{add-zero}
use native.Mathlib.Omega.{arith, by_contra}
use borrow.Author.Tests.{le-ltb, lt-ltb, ltb-false, ltb-true}
use Rattle.std.proofs.Math.Path.{fun_ext}
use Rattle.algebra.specs.Rows.{plane_at-above, plane_at-inside, plane_at-right}
use Rattle.buffer.specs.Segments.{coefficient-segment, length-segment, segment}
use Rattle.definition.specs.KinoshitaLi.{even_part, plane_at}
use Rattle.definition.specs.Lists.{ceil_div, coefficient}
use Rattle.grids.specs.Parts.{Few, Lies, Source, block_places, grid_at}
use Rattle.grids.specs.declared.Grid.{Grid}
use Rattle.double_parity.specs.declared.Results.{Results}
use Rattle.planes.specs.Rows.{plane-fits}
use Rattle.planes.specs.Parity.{odd_part}

abbrev pub rows_at : ℕ → List ℕ → ℕ → ℕ → ℕ → ℕ → ℕ
rows_at r w at rows = plane_at r (segment w at (rows * r))

abbrev pub every_second : ℕ → ℕ → ℕ → ℕ → Grid
every_second r n at rows = record { at = at; outer = r; inner = 2; count = rows; length = n }

abbrev pub results_of : Bool → ℕ → ℕ → ℕ → Results
results_of turned low count m = record { turned = turned; low = low; rows = count; places = m }

abbrev pub every : ℕ → ℕ → ℕ → ℕ → List ℕ → ℕ → ℕ → ℕ
every r n at rows = grid_at (every_second r n at rows)

-- what is required of a part that is known by an equation
pub part_of : {p : ℕ} {turned : Bool} {g g' : Grid} {w l : List ℕ} → g ≡ g' → Source p turned g' w l × Few turned g'.length g'.count
    → Source p turned g w l × Few turned g.length g.count
part_of e s = rw e s

pub source_of : {p : ℕ} {turned : Bool} {g g' : Grid} {w l : List ℕ} → g ≡ g' → Source p turned g' w l → Source p turned g w l
source_of e s = rw e s

-- a place of the rows
module _ (r : ℕ) (w : List ℕ) (at rows : ℕ) where
  row_at : (j i : ℕ) → j < rows → i < r → rows_at r w at rows j i ≡ coefficient w (at + (j * r + i))
  row_at j i b c =
      plane_at-inside r (segment w at (rows * r)) j i c
      ∙ coefficient-segment w at (rows * r) (j * r + i) (omega (arith, mul-le-mul_right r b, suc-mul j r))

  row-above : (j i : ℕ) → rows ≤ j → rows_at r w at rows j i ≡ 0
  row-above j i b = plane_at-above r rows (segment w at (rows * r)) (length-segment w at (rows * r)) j i b

  row-right : (j i : ℕ) → r ≤ i → rows_at r w at rows j i ≡ 0
  row-right j i b = plane_at-right r (segment w at (rows * r)) j i b

  -- every second place, from place c of a row on
  second : (n c : ℕ) → c ≤ 1 → ((i : ℕ) → i < n → 2 * i + c < r) → ((i : ℕ) → n ≤ i → r ≤ 2 * i + c)
      → (j i : ℕ) → every r n (at + c) rows w j i ≡ rows_at r w at rows j (2 * i + c)
  unfolding grid_at
  second n c small below beyond j i = go (dec_lt j rows) (dec_lt i n)
    where
      go : Dec (j < rows) → Dec (i < n) → every r n (at + c) rows w j i ≡ rows_at r w at rows j (2 * i + c)
      go (yes b) (yes d) =
          let same : at + c + j * r + i * 2 ≡ at + (j * r + (2 * i + c)) = omega arith in
          rw (lt-ltb j rows b, lt-ltb i n d, same) (sym (row_at j (2 * i + c) b (below i d)))
      go (yes b) (no d) = rw (lt-ltb j rows b, le-ltb i n (omega arith)) (sym (row-right j (2 * i + c) (beyond i (omega arith))))
      go (no b) d = rw (le-ltb j rows (omega arith)) (sym (row-above j (2 * i + c) (omega arith)))

  pub every-even : every r (ceil_div r 2) at rows w ≡ even_part (rows_at r w at rows)
  unfolding even_part ceil_div
  every-even = fun_ext λ j. fun_ext λ i.
      rw (add-zero, add-zero) at (second ((r + (2 - 1)) / 2) 0 (omega arith) (λ k h. omega arith) (λ k h. omega arith) j i)

  pub every-odd : every r (r - ceil_div r 2) (at + 1) rows w ≡ odd_part (rows_at r w at rows)
  unfolding odd_part ceil_div
  every-odd = fun_ext λ j. fun_ext λ i. second (r - (r + (2 - 1)) / 2) 1 (omega arith) (λ k h. omega arith) (λ k h. omega arith) j i

pub record Reading (p r at rows : ℕ) (w : List ℕ) : Type 0 where
  pub modulus : 0 < p
  pub positive : 0 < r
  pub some : 0 < rows
  pub source : at + rows * r ≤ length w
  pub fits : length w < 2 ^ 64

module _ {p r at rows : ℕ} {w : List ℕ} (reading : Reading p r at rows w) where
  row_fits : (j : ℕ) → j < rows → at + j * r + r ≤ length w
  row_fits j b = plane-fits at r rows j reading.source b

  pub next_fits : at + 1 < 2 ^ 64
  next_fits = omega (arith, row_fits 0 reading.some, reading.positive, reading.fits)

  pub lies-second : (n c : ℕ) → ((i : ℕ) → i < n → 2 * i + c < r) → c ≤ r → Lies (every_second r n (at + c) rows) w
  lies-second n c below few = record {
    columns = λ i b. omega (arith, row_fits 0 reading.some, below i b, reading.fits);
    lines = λ j b. omega (arith, row_fits j b, reading.fits);
    inside = λ j i b c. omega (arith, row_fits j b, below i c);
  }

  pub lies-even : {half : ℕ} → half ≡ ceil_div r 2 → Lies (every_second r half at rows) w
  unfolding ceil_div
  lies-even {half} e = rw add-zero at (lies-second half 0 (λ i b. omega arith) (omega arith))

  pub lies-odd : {half : ℕ} → half ≡ ceil_div r 2 → Lies (every_second r (r - half) (at + 1) rows) w
  unfolding ceil_div
  lies-odd {half} e = lies-second (r - half) 1 (λ i b. omega arith) reading.positive

-- the shorter direction is at most s
pub shorter : (s a b : ℕ) → a ≤ b → a * b ≤ s * s → a ≤ s
shorter s a b h area = by_contra a s (λ c.
    let least : (s + 1) * (s + 1) ≤ a * b = mul-le-mul (omega arith) (omega arith) in
    omega (arith, least, add-mul s 1 (s + 1), mul-add s s 1, one-mul (s + 1)))

pub blocks-few : (s n half rows : ℕ) → n ≤ half → rows * half ≤ s * s → (turned : Bool) → turned ≡ ltb half rows
    → block_places turned n rows ≤ s * s + 8 * s
unfolding block_places
blocks-few s n half rows less area true e =
    let wide : half < rows = ltb-true half rows (sym e) in
    let few : half ≤ s = shorter s half rows (omega arith) (rw (mul_comm half rows) area) in
    omega (arith, mul-add n rows 8, mul-le-mul_right rows less, mul_comm half rows)
blocks-few s n half rows less area false e =
    let long : rows ≤ half = ltb-false half rows (sym e) in
    let few : rows ≤ s = shorter s rows half long area in
    omega (arith, mul-add rows n 8, mul-le-mul_left rows less)

pub half-positive : {r : ℕ} → 0 < r → (0 < ceil_div r 2) × (ceil_div r 2 ≤ r)
unfolding ceil_div
half-positive h = (omega arith, omega arith)

pub half-size : (r rows : ℕ) {half n : ℕ} → half ≡ ceil_div r 2 → rows * ceil_div r 2 ≤ n → rows * half ≤ n
half-size r rows e h = rw e h

pub half-near : (r : ℕ) → (r - ceil_div r 2 ≤ ceil_div r 2) × (ceil_div r 2 - 1 ≤ r - ceil_div r 2) × (r ≤ ceil_div r 2 + ceil_div r 2)
unfolding ceil_div
half-near r = (omega arith, omega arith, omega arith)
