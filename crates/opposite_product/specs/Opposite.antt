-- a(x, y) a(-x, y), from the squares of the even and the odd part of a.
--
--   opposite_product p a    the product modulo p
--   OppositeRoom           what the product requires of the rows, and of the lists
--   even-square odd-square what the two squares require
--   opposite_putting       what writing the rows requires
--   opposite-written       and what it leaves
-- Assumes nothing.
use Prim.Native.Nat.{ℕ, zero, suc, ◌+◌, ◌-◌, ◌*◌, ◌/◌, ◌%◌, ◌<◌, ◌≤◌, ◌^◌}
use Rattle.std.proofs.Common.{le_refl, mul_assoc, mul-le-mul, mul-le-mul_left, mul-le-mul_right, mul-one, one-mul, true≢false, ap, ◌∙◌}
use Rattle.std.proofs.Math.Nat.{mod-lt}
use native.Mathlib.Omega.{arith}
use borrow.Author.Tests.{eq-eqb, ne_eqb}
use Rattle.std.specs.Prelude.{Bool, true, List, ◌≡◌, ltb, length}
use Rattle.std.proofs.Math.Path.{refl, sym}
use Rattle.std.proofs.lemmas.List.Edits.{sets}
use Rattle.std.proofs.Math.Seq.{length-sets}
use Rattle.algebra.specs.Rows.{plane_agree}
use Rattle.definition.specs.KinoshitaLi.{cut_product2_at, even_part, opposite, plane}
use Rattle.definition.specs.Lists.{ceil_div}
use Rattle.grids.specs.Grid.{Clean}
use Rattle.grids.specs.Parts.{Few, Lies, Room, Source, block_places, grid_at, packed, window-0}
use Rattle.grids.specs.declared.Grid.{Grid}
use Rattle.summed_product.specs.Zeros.{Zeros}
use Rattle.planes.specs.Parity.{odd_part, opposite-even, opposite-first, opposite-odd}
use Rattle.double_parity.specs.Packed.{packed-at, packed-below}
use Rattle.double_karatsuba.specs.Product.{Multiplied, Multiplying, same-multiplied, zeros-clean}
use Rattle.double_parity.specs.declared.Results.{Results}
use Rattle.double_rows.specs.Places.{Putting, opposite_place, packed_at, place_of}
use Rattle.double_parts.specs.Made.{Made, made}
use Rattle.double_parts.specs.Rows.{Reading, half-near, half-positive, blocks-few, every, every-even, every-odd, every_second, lies-even, lies-odd, results_of, rows_at}

-- the square of a part, written to a list
abbrev squares : List ℕ → Bool → ℕ → ℕ → ℕ → (ℕ → ℕ → ℕ) → List ℕ
squares z turned m count p f = sets z 0 (packed turned m count (cut_product2_at p f f))

-- a square of a part that is known by an equation
module _ (p : ℕ) (turned : Bool) (m count : ℕ) (w z : List ℕ) {z' : List ℕ} {g g' : Grid} (e : g ≡ g') where
  pub square_of : z' ≡ squares z turned m count p (grid_at g w) → z' ≡ squares z turned m count p (grid_at g' w)
  square_of h = rw e at h

  pub long_square_of : {t : Results} → t ≡ results_of turned 0 count m → Multiplied p g w g w t z z' → z' ≡ squares z turned m count p (grid_at g' w)
  long_square_of f h = square_of (rw window-0 at (same-multiplied p w w z refl refl f h))

abbrev pub opposite_product : ℕ → (ℕ → ℕ → ℕ) → ℕ → ℕ → ℕ
opposite_product p a = cut_product2_at p a (opposite p a)

pub record OppositeRoom (p r at rows t count : ℕ) (w : List ℕ) : Type 0 where
  pub reading : Reading p r at rows w
  pub target : t + count * r ≤ length w
  pub order : r ≤ 2 ^ 30
  pub doubled : count ≤ 2 * rows

-- lists that are room for the parts of a product of so many rows
pub record Sized (p r rows : ℕ) (left even odd : List ℕ) : Type 0 where
  pub side : ℕ
  pub lists : Made p side (2 * (side * side)) even odd
  pub clean : Clean p left
  pub left-room : 8 + (side * side + 8 * side) ≤ length left
  pub size : rows * ceil_div r 2 ≤ side * side

-- a product with at most so many places
record Bounded (side rows half count : ℕ) : Type 0 where
  few : side ≤ 64
  size : rows * half ≤ side * side
  positive : 0 < half
  doubled : count ≤ 2 * rows

module _ {side rows half count : ℕ} (b : Bounded side rows half count) where
  area : side * side ≤ 4096
  area = mul-le-mul {n₂ = 64} {m₂ = 64} b.few b.few

  results_fit : count * half ≤ 2 * (side * side)
  results_fit = omega (arith, mul-le-mul_right half b.doubled, mul_assoc 2 rows half, b.size)

  few-rows : rows ≤ 4096
  few-rows = omega (arith, area, b.size, mul-le-mul_left rows b.positive, mul-one rows)

  few-places : 0 < rows → half ≤ 4096
  few-places some = omega (arith, area, b.size, mul-le-mul_right half some, one-mul half)

  few-blocks : side * side + 8 * side ≤ 4608
  few-blocks = omega (arith, area, b.few)

module _ {p r at rows t count : ℕ} {w : List ℕ} (room : OppositeRoom p r at rows t count w) {side half : ℕ} {even odd : List ℕ}
    (lists : Made p side (2 * (side * side)) even odd) (size : rows * half ≤ side * side) (eh : half ≡ ceil_div r 2) {turned : Bool} (et : turned ≡ ltb half rows) where
  bounds : Bounded side rows half count
  bounds = record { few = lists.few; size = size; positive = rw eh (half-positive room.reading.positive).0; doubled = room.doubled }

  few_of : (n : ℕ) → n ≤ half → block_places turned n rows ≤ 4608
  few_of n b = omega (arith, blocks-few side n half rows b size turned et, few-blocks bounds)

  room_of : (m : ℕ) → m ≤ half → {z : List ℕ} → 2 * (side * side) ≤ length z → Room turned m count 0 z
  room_of m b c = record {
    room = omega (arith, mul-le-mul_left count b, results_fit bounds);
    places = omega (arith, few-places bounds room.reading.some);
    rows = omega (arith, few-rows bounds, room.doubled);
  }

  near : r - half ≤ half
  near = rw eh (half-near r).0

  -- by blocks, in a list
  module _ {left : List ℕ} (clean : Clean p left) (left-room : 8 + (side * side + 8 * side) ≤ length left) where
    source : (n at : ℕ) → n ≤ half → Lies (every_second r n at rows) w
        → Source p turned (every_second r n at rows) w left × Few turned n rows
    source n at b lies = (
      record {
        modulus = room.reading.modulus;
        clean = clean;
        room = omega (arith, blocks-few side n half rows b size turned et, left-room);
        lies = lies;
      },
      record { few = omega (arith, few_of n b) },
    )

    pub even-square : Source p turned (every_second r half at rows) w left × Few turned half rows × Room turned half count 0 even
    even-square =
        let it = source half at (le_refl half) (lies-even room.reading eh) in
        (it.0, it.1, room_of half (le_refl half) lists.even-room)

    pub odd-square : Source p turned (every_second r (r - half) (at + 1) rows) w left × Few turned (r - half) rows × Room turned (half - 1) count 0 odd
    odd-square =
        let it = source (r - half) (at + 1) near (lies-odd room.reading eh) in
        (it.0, it.1, room_of (half - 1) (omega arith) lists.odd-room)

  -- of long parts
  multiplying : (n at m : ℕ) {z : List ℕ} → n ≤ half → m ≤ half → Lies (every_second r n at rows) w → 2 * (side * side) ≤ length z
      → Multiplying p true (every_second r n at rows) w (every_second r n at rows) w (results_of turned 0 count m) z
  multiplying n at m b c lies d = record {
    modulus = room.reading.modulus;
    first = lies;
    second = lies;
    first_fits = room.reading.fits;
    second_fits = room.reading.fits;
    few = few_of n b;
    many = omega (arith, few_of n b);
    short = omega (arith, few-places bounds room.reading.some);
    rows = omega (arith, few-rows bounds);
    more = omega (arith, few-rows bounds);
    like = refl;
    squared = record { part = λ e. refl; list = λ e. refl; first = λ e. refl };
    results = omega (arith, mul-le-mul_left count c, results_fit bounds, area bounds);
    room = room_of m c d;
  }

  pub even-multiplying : Multiplying p true (every_second r half at rows) w (every_second r half at rows) w (results_of turned 0 count half) even
  even-multiplying = multiplying half at half (le_refl half) (le_refl half) (lies-even room.reading eh) lists.even-room

  pub odd-multiplying : Multiplying p true (every_second r (r - half) (at + 1) rows) w (every_second r (r - half) (at + 1) rows) w
      (results_of turned 0 count (half - 1)) odd
  odd-multiplying = multiplying (r - half) (at + 1) (half - 1) near (omega arith) (lies-odd room.reading eh) lists.odd-room

  -- the squares of the parts, and the rows
  module _ {even' odd' : List ℕ} (first : even' ≡ squares even turned half count p (every r half at rows w))
      (second : odd' ≡ squares odd turned (half - 1) count p (every r (r - half) (at + 1) rows w)) where
    abbrev Q : ℕ → ℕ → ℕ
    Q = rows_at r w at rows

    even-fits : count * half ≤ length even
    even-fits = (room_of half (le_refl half) {z = even} lists.even-room).room

    odd-fits : count * (half - 1) ≤ length odd
    odd-fits = (room_of (half - 1) (omega arith) {z = odd} lists.odd-room).room

    even-at : (j i : ℕ) → j < count → i < half → packed_at turned half count even' j i ≡ cut_product2_at p (even_part Q) (even_part Q) j i
    even-at j i b c =
        rw first
        (packed-at half count (cut_product2_at p (every r half at rows w) (every r half at rows w)) even even-fits turned j i b c
        ∙ rw (eh, every-even r w at rows))

    odd-at : (j i : ℕ) → j < count → i < half - 1 → packed_at turned (half - 1) count odd' j i ≡ cut_product2_at p (odd_part Q) (odd_part Q) j i
    odd-at j i b c =
        rw second
        (packed-at (half - 1) count (cut_product2_at p (every r (r - half) (at + 1) rows w) (every r (r - half) (at + 1) rows w)) odd
        odd-fits turned j i b c
        ∙ rw (eh, every-odd r w at rows))

    residue : (a : ℕ → ℕ → ℕ) (j i : ℕ) → cut_product2_at p a a j i < p
    unfolding cut_product2_at
    residue a j i = mod-lt _ room.reading.modulus

    pub opposite_putting : Putting p true r half (half - 1) count even' odd'
    opposite_putting = record {
      halves = record {
        even-room = rw (first, length-sets) even-fits;
        odd-room = rw (second, length-sets) odd-fits;
        even-below = λ k. rw first (packed-below half count _ even even-fits p (residue _) lists.even-below turned k);
        odd-below = λ k.
            rw second (packed-below (half - 1) count _ odd odd-fits p (residue _) lists.odd-below turned k);
      };
      few = omega (arith, results_fit bounds, area bounds);
      shorter = omega arith;
      near = omega arith;
      square = λ e. (refl, rw eh (half-near r).2);
      whole = λ e. absurd (true≢false e);
    }

    place_at : (j : ℕ) → j < count → (i : ℕ) → i < r → place_of p true turned half (half - 1) count even' odd' j i ≡ opposite_product p Q j i
    unfolding place_of opposite_place
    place_at j b i c = go (i / 2) refl (i % 2) refl
      where
        go : (k : ℕ) → i / 2 ≡ k → (o : ℕ) → i % 2 ≡ o → opposite_place p turned half count even' odd' j i ≡ opposite_product p Q j i
        go k ek (suc o) eo =
            let same : i ≡ 2 * k + 1 = omega arith in
            rw (eq-eqb (i % 2) 1 (omega arith)) (sym (rw same (opposite-odd room.reading.modulus Q j k)))
        go zero ek zero eo =
            let same : i ≡ 0 = omega arith in
            rw (ne_eqb (i % 2) 1 (λ e. omega arith), eq-eqb (i / 2) 0 ek, ek)
            (even-at j 0 b bounds.positive ∙ sym (rw same (opposite-first p Q j)))
        go (suc k) ek zero eo =
            let same : i ≡ 2 * suc k = omega arith in
            let before : suc k - 1 ≡ k = omega arith in
            let near : r ≤ half + half = rw eh (half-near r).2 in
            let inside : suc k < half = omega arith in
            rw (ne_eqb (i % 2) 1 (λ e. omega arith), ne_eqb (i / 2) 0 (λ e. omega arith), ek, before)
            (rw (even-at j (suc k) b inside, odd-at j k b (omega arith)) (sym (rw same (opposite-even room.reading.modulus Q j k))))

    pub opposite-written : {w' : List ℕ} → w' ≡ sets w t (plane r count (place_of p true turned half (half - 1) count even' odd'))
        → w' ≡ sets w t (plane r count (opposite_product p Q))
    opposite-written e = e ∙ ap (sets w t) (plane_agree r count place_at)

pub sized : {p : ℕ} → 0 < p → (r rows side : ℕ) {left even odd : List ℕ} → side ≤ 64 → rows * ceil_div r 2 ≤ side * side
    → Zeros (8 + (side * side + 8 * side)) left → Zeros (2 * (side * side)) even → Zeros (2 * (side * side)) odd → Sized p r rows left even odd
sized positive r rows side few size l e o = record {
  side = side;
  lists = made positive few e o;
  clean = zeros-clean positive l;
  left-room = rw l.size (le_refl _);
  size = size;
}
