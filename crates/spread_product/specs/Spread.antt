-- a(x^2, y) b(x, y), from the products of a(x, y) with the even and with the odd part of b.
--
--   spread_product          rows of the product modulo p, moved down to 0
--   SpreadRoom             what the product requires of the rows
--   SpreadSized            and of the lists
--   even-factors odd-factors   what the two products require
--   spread_putting         what writing the rows requires
--   spread_written         and what it leaves
-- Assumes nothing.
use Rattle.std.specs.Prelude.{ℕ, zero, suc, ◌+◌, ◌-◌, ◌*◌, ◌/◌, ◌%◌, ◌<◌, ◌≤◌, ◌^◌, Bool, false, true, List, ◌≡◌, ltb, length}
use Rattle.std.proofs.Common.{add-zero, le_refl, lt-suc_self, mul-add, mul_assoc, mul_comm, mul-le-mul, mul-le-mul_left, mul-le-mul_right, mul-one, one-mul, arith, eq-eqb, lt-ltb, ltb-false, ltb-true, ne_eqb, sym, ◌∙◌}
use Rattle.std.proofs.Math.Nat.{mod-lt}
use Rattle.std.proofs.lemmas.Bool.{false≢true}
use Rattle.std.proofs.Math.Path.{refl, ap, fun_ext}
use Rattle.std.proofs.lemmas.List.Edits.{sets}
use Rattle.std.proofs.Math.Seq.{length-sets}
use Rattle.algebra.specs.Plane.{AgreePlane}
use Rattle.algebra.specs.Rows.{plane_agree}
use Rattle.definition.specs.Bernstein.{spread}
use Rattle.definition.specs.KinoshitaLi.{cut_product2_at, even_part, plane, product2, squared, window}
use Rattle.definition.specs.Lists.{ceil_div}
use Rattle.grids.specs.Grid.{Clean}
use Rattle.grids.specs.Parts.{Few, Lies, Room, Source, block_places, grid_at, packed}
use Rattle.grids.specs.declared.Grid.{Grid}
use Rattle.summed_product.specs.Zeros.{Zeros}
use Rattle.planes.specs.Parity.{odd_part, squared-even, squared-odd}
use Rattle.planes.specs.Products.{product2_agree, product2_comm}
use Rattle.double_parity.specs.Packed.{packed-at, packed-below}
use Rattle.double_karatsuba.specs.Product.{Multiplied, Multiplying, same-multiplied, zeros-clean}
use Rattle.double_parity.specs.declared.Results.{Results}
use Rattle.double_parts.specs.Made.{Made, made}
use Rattle.double_parts.specs.Rows.{half-near, half-positive}
use Rattle.double_rows.specs.Places.{Putting, packed_at, place_of, spread_place}
use Rattle.double_parts.specs.Rows.{Reading, blocks-few, every, every-even, every-odd, every_second, lies-even, lies-odd, lies-second, results_of, rows_at, shorter}

abbrev pub spread_product : ℕ → ℕ → List ℕ → (a rows b more low : ℕ) → ℕ → ℕ → ℕ
spread_product p r w a rows b more low = window low (cut_product2_at p (rows_at r w a rows) (rows_at r w b more))

-- a product of parts that are known by equations
module _ (p : ℕ) (turned : Bool) (m count low : ℕ) (w z : List ℕ) {z' : List ℕ} {g g' h h' : Grid} (e : g ≡ g') (f : h ≡ h') where
  pub product_of_lem : z' ≡ sets z 0 (packed turned m count (window low (cut_product2_at p (grid_at g w) (grid_at h w))))
      → z' ≡ sets z 0 (packed turned m count (window low (cut_product2_at p (grid_at g' w) (grid_at h' w))))
  product_of_lem k = rw (e, f) at k

  pub long_product_of : {t : Results} → t ≡ results_of turned low count m → Multiplied p g w h w t z z'
      → z' ≡ sets z 0 (packed turned m count (window low (cut_product2_at p (grid_at g' w) (grid_at h' w))))
  long_product_of k b = same-multiplied p w w z e f k b

-- the lists that factors are read into
pub record SpreadFactors (p side : ℕ) (left right : List ℕ) : Type 0 where
  pub clean-left : Clean p left
  pub clean-right : Clean p right
  pub left-room : 8 + (side * side + 8 * side) ≤ length left
  pub right-room : 8 + (2 * (side * side) + 16 * side) ≤ length right

pub record SpreadRoom (p r a rows b more low t count : ℕ) (w : List ℕ) : Type 0 where
  pub first : Reading p r a rows w
  pub second : Reading p r b more w
  pub target : t + count * r ≤ length w
  pub order : r ≤ 2 ^ 30
  pub few : count ≤ more
  pub doubled : rows ≤ 2 * more
  pub window : low ≤ 2 ^ 30
  pub odd-zero : (j i : ℕ) → odd_part (rows_at r w a rows) j i ≡ 0

pub record SpreadSized (p r more : ℕ) (left right even odd : List ℕ) : Type 0 where
  pub side : ℕ
  pub lists : Made p side (side * side) even odd
  pub factors : SpreadFactors p side left right
  pub size : more * ceil_div r 2 ≤ side * side

-- twice as many rows
blocks_double : (s n half rows more : ℕ) → n ≤ half → more * half ≤ s * s → rows ≤ 2 * more → (turned : Bool) → turned ≡ ltb half more
    → block_places turned n rows ≤ 2 * (s * s) + 16 * s
unfolding block_places
blocks_double s n half rows more less area double true e =
    let wide : half < more = ltb-true half more (sym e) in
    let few : half ≤ s = shorter s half more (omega arith) (rw (mul_comm half more) area) in
    omega (arith, mul-add n rows 8, mul-le-mul_left n double, mul-le-mul_right (2 * more) less, mul_comm half (2 * more), mul_assoc 2 more half)
blocks_double s n half rows more less area double false e =
    let long : more ≤ half = ltb-false half more (sym e) in
    let few : more ≤ s = shorter s more half long area in
    omega (arith, mul-add rows n 8, mul-le-mul_left rows less, mul-le-mul_right half double, mul_assoc 2 more half)

squared_of : (a : ℕ → ℕ → ℕ) → ((j i : ℕ) → odd_part a j i ≡ 0) → a ≡ squared (even_part a)
unfolding squared spread even_part odd_part
squared_of a zeros = fun_ext λ j. fun_ext λ i. at j i (i % 2) refl
  where
    at : (j i o : ℕ) → i % 2 ≡ o → a j i ≡ squared (even_part a) j i
    at j i zero e =
        let same : 2 * (i / 2) ≡ i = omega arith in
        rw (eq-eqb (i % 2) 0 e, same)
    at j i (suc o) e =
        let same : i ≡ 2 * (i / 2) + 1 = omega arith in
        rw (ne_eqb (i % 2) 0 (λ z. omega arith)) (ap (a j) same ∙ zeros j (i / 2))

module _ {p r a rows b more low t count : ℕ} {w : List ℕ} (room : SpreadRoom p r a rows b more low t count w) {side half : ℕ}
    {even odd : List ℕ} (lists : Made p side (side * side) even odd) (size : more * half ≤ side * side) (eh : half ≡ ceil_div r 2)
    {turned : Bool} (et : turned ≡ ltb half more) where
  area : side * side ≤ 4096
  area = mul-le-mul {n₂ = 64} {m₂ = 64} lists.few lists.few

  results_fit : count * half ≤ side * side
  results_fit = omega (arith, mul-le-mul_right half room.few, size)

  positive : 0 < half
  positive = rw eh (half-positive room.first.positive).0

  near : r - half ≤ half
  near = rw eh (half-near r).0

  few_of : (n : ℕ) → n ≤ half → block_places turned n more ≤ 4608
  few_of n d = omega (arith, blocks-few side n half more d size turned et, area, lists.few)

  many_of : (n : ℕ) → n ≤ half → block_places turned n rows ≤ 9216
  many_of n d = omega (arith, blocks_double side n half rows more d size room.doubled turned et, area, lists.few)

  few-places : half ≤ 4096
  few-places = omega (arith, area, size, mul-le-mul_right half room.second.some, one-mul half)

  few-rows : more ≤ 4096
  few-rows = omega (arith, area, size, mul-le-mul_left more positive, mul-one more)

  room_of : (m : ℕ) → m ≤ half → (z : List ℕ) → side * side ≤ length z → Room turned m count low z
  room_of m d z c = record {
    room = omega (arith, mul-le-mul_left count d, results_fit);
    places = omega (arith, few-places);
    rows = omega (arith, room.window, room.few, few-rows);
  }

  -- the even powers of x in a, cut to the places of an odd part
  lies-cut : Lies (every_second r (r - half) a rows) w
  lies-cut = rw add-zero at (lies-second room.first (r - half) 0 (λ i d. omega (arith, near, half_double)) (omega arith))
    where
      half_double : r ≤ half + half
      half_double = rw eh (half-near r).2

  -- by blocks, in lists
  module _ {left right : List ℕ} (factors : SpreadFactors p side left right) where
    sources : (n b' : ℕ) → n ≤ half → Lies (every_second r n b' more) w → Lies (every_second r n a rows) w
        → Source p turned (every_second r n b' more) w left × Few turned n more × Source p turned (every_second r n a rows) w right
    sources n b' d lies lies' = (
      record {
        modulus = room.first.modulus;
        clean = factors.clean-left;
        room = omega (arith, blocks-few side n half more d size turned et, factors.left-room);
        lies = lies;
      },
      record { few = omega (arith, few_of n d) },
      record {
        modulus = room.first.modulus;
        clean = factors.clean-right;
        room = omega (arith, blocks_double side n half rows more d size room.doubled turned et, factors.right-room);
        lies = lies';
      },
    )

    pub even-factors : Source p turned (every_second r half b more) w left × Few turned half more × Source p turned (every_second r half a rows) w right
        × Room turned half count low even
    even-factors =
        let it = sources half b (le_refl half) (lies-even room.second eh) (lies-even room.first eh) in
        (it.0, it.1, it.2, room_of half (le_refl half) even lists.even-room)

    pub odd-factors : Source p turned (every_second r (r - half) (b + 1) more) w left × Few turned (r - half) more
        × Source p turned (every_second r (r - half) a rows) w right × Room turned (r - half) count low odd
    odd-factors =
        let it = sources (r - half) (b + 1) near (lies-odd room.second eh) lies-cut in
        (it.0, it.1, it.2, room_of (r - half) near odd lists.odd-room)

  -- of long parts
  multiplying : (n b' : ℕ) {z : List ℕ} → n ≤ half → Lies (every_second r n b' more) w → Lies (every_second r n a rows) w → side * side ≤ length z
      → Multiplying p false (every_second r n b' more) w (every_second r n a rows) w (results_of turned low count n) z
  multiplying n b' {z} d lies lies' c = record {
    modulus = room.first.modulus;
    first = lies;
    second = lies';
    first_fits = room.first.fits;
    second_fits = room.first.fits;
    few = few_of n d;
    many = many_of n d;
    short = omega (arith, few-places);
    rows = omega (arith, few-rows);
    more = omega (arith, few-rows, room.doubled);
    like = refl;
    squared = record { part = λ e. absurd (false≢true e); list = λ e. absurd (false≢true e); first = λ e. absurd (false≢true e) };
    results = omega (arith, mul-le-mul_left count d, results_fit, area);
    room = room_of n d z c;
  }

  pub even-multiplying : Multiplying p false (every_second r half b more) w (every_second r half a rows) w (results_of turned low count half) even
  even-multiplying = multiplying half b (le_refl half) (lies-even room.second eh) (lies-even room.first eh) lists.even-room

  pub odd-multiplying : Multiplying p false (every_second r (r - half) (b + 1) more) w (every_second r (r - half) a rows) w
      (results_of turned low count (r - half)) odd
  odd-multiplying = multiplying (r - half) (b + 1) near (lies-odd room.second eh) lies-cut lists.odd-room

  -- the products of the parts, and the rows
  module _ {even' odd' : List ℕ} (first : even' ≡ sets even 0 (packed turned half count (window low (cut_product2_at p (every r half b more w) (every r half a rows w)))))
      (second : odd' ≡ sets odd 0 (packed turned (r - half) count (window low (cut_product2_at p (every r (r - half) (b + 1) more w) (every r (r - half) a rows w))))) where
    abbrev A : ℕ → ℕ → ℕ
    A = rows_at r w a rows

    abbrev B : ℕ → ℕ → ℕ
    B = rows_at r w b more

    even-fits : count * half ≤ length even
    even-fits = (room_of half (le_refl half) even lists.even-room).room

    odd-fits : count * (r - half) ≤ length odd
    odd-fits = (room_of (r - half) near odd lists.odd-room).room

    spread-even : (j i : ℕ) → product2 (even_part B) (even_part A) j i ≡ product2 A B j (2 * i)
    spread-even j i =
        product2_comm (even_part B) (even_part A) j i
        ∙ sym (squared-even (even_part A) B j i)
        ∙ ap (λ u. product2 u B j (2 * i)) (sym (squared_of A room.odd-zero))

    spread-odd : (j i : ℕ) → product2 (odd_part B) (even_part A) j i ≡ product2 A B j (2 * i + 1)
    spread-odd j i =
        product2_comm (odd_part B) (even_part A) j i
        ∙ sym (squared-odd (even_part A) B j i)
        ∙ ap (λ u. product2 u B j (2 * i + 1)) (sym (squared_of A room.odd-zero))

    -- the even part of a, cut to the places of an odd part
    cut : (j : ℕ) → AgreePlane (suc j) (r - half) (every r (r - half) a rows w) (even_part A)
    unfolding grid_at
    cut j k c i d =
        rw (lt-ltb i (r - half) d) (sym (rw (lt-ltb i half (omega (arith, near))) at (ap (λ s. s k i) (sym (rw (← eh) at (every-even r w a rows))))))

    even-at : (j i : ℕ) → j < count → i < half → packed_at turned half count even' j i ≡ cut_product2_at p A B (low + j) (2 * i)
    unfolding cut_product2_at window
    even-at j i c d =
        rw first
        (packed-at half count (window low (cut_product2_at p (every r half b more w) (every r half a rows w))) even even-fits turned j i c d
        ∙ rw (eh, every-even r w b more, every-even r w a rows, spread-even (low + j) i))

    odd-at : (j i : ℕ) → j < count → i < r - half → packed_at turned (r - half) count odd' j i ≡ cut_product2_at p A B (low + j) (2 * i + 1)
    unfolding cut_product2_at window
    odd-at j i c d =
        rw second
        (packed-at (r - half) count (window low (cut_product2_at p (every r (r - half) (b + 1) more w) (every r (r - half) a rows w))) odd odd-fits turned j i c d
        ∙ ap (λ s. s % p)
        (product2_agree (λ k e u f. refl) (cut (low + j)) (low + j) (lt-suc_self (low + j)) i d
        ∙ rw (eh, every-odd r w b more) (spread-odd (low + j) i)))

    residue : (f g : ℕ → ℕ → ℕ) (j i : ℕ) → window low (cut_product2_at p f g) j i < p
    unfolding cut_product2_at window
    residue f g j i = mod-lt _ room.first.modulus

    pub spread_putting : Putting p false r half (r - half) count even' odd'
    spread_putting = record {
      halves = record {
        even-room = rw (first, length-sets) even-fits;
        odd-room = rw (second, length-sets) odd-fits;
        even-below = λ k. rw first (packed-below half count _ even even-fits p (residue _ _) lists.even-below turned k);
        odd-below = λ k. rw second (packed-below (r - half) count _ odd odd-fits p (residue _ _) lists.odd-below turned k);
      };
      few = omega (arith, results_fit, area);
      shorter = near;
      near = omega (arith, less);
      square = λ e. absurd (false≢true e);
      whole = λ e. omega (arith, within);
    }
      where
        less : half - 1 ≤ r - half
        less = rw eh (half-near r).1

        within : half ≤ r
        within = rw eh (half-positive room.first.positive).1

    place_at : (j : ℕ) → j < count → (i : ℕ) → i < r
        → place_of p false turned half (r - half) count even' odd' j i ≡ window low (cut_product2_at p A B) j i
    unfolding place_of spread_place window
    place_at j c i d = go (i % 2) refl
      where
        near-half : r ≤ half + half
        near-half = rw eh (half-near r).2

        rest : half ≤ r - half + 1
        rest = spread_putting.near

        go : (o : ℕ) → i % 2 ≡ o → spread_place turned half (r - half) count even' odd' j i ≡ cut_product2_at p A B (low + j) i
        go zero e =
            let same : 2 * (i / 2) ≡ i = omega arith in
            rw (ne_eqb (i % 2) 1 (λ z. omega arith)) (rw same at (even-at j (i / 2) c (omega (arith, near-half))))
        go (suc o) e =
            let same : 2 * (i / 2) + 1 ≡ i = omega arith in
            let inside : i / 2 < r - half = omega (arith, rest) in
            rw (eq-eqb (i % 2) 1 (omega arith)) (rw same at (odd-at j (i / 2) c inside))

    pub spread_written : {w' : List ℕ} → w' ≡ sets w t (plane r count (place_of p false turned half (r - half) count even' odd'))
        → w' ≡ sets w t (plane r count (window low (cut_product2_at p A B)))
    spread_written e = e ∙ ap (sets w t) (plane_agree r count place_at)

pub spread-sized : {p : ℕ} → 0 < p → (r more side : ℕ) {left right even odd : List ℕ} → side ≤ 64 → more * ceil_div r 2 ≤ side * side
    → Zeros (8 + (side * side + 8 * side)) left → Zeros (8 + (2 * (side * side) + 16 * side)) right → Zeros (side * side) even
    → Zeros (side * side) odd → SpreadSized p r more left right even odd
spread-sized positive r more side few size l m e o = record {
  side = side;
  lists = made positive few e o;
  factors = record {
    clean-left = zeros-clean positive l;
    clean-right = zeros-clean positive m;
    left-room = rw l.size (le_refl _);
    right-room = rw m.size (le_refl _);
  };
  size = size;
}
