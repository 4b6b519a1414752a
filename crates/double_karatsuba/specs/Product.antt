-- What a product of parts requires, of its three products too.
--
--   product_of              the rows that it writes, a polynomial
--   Squared                where it is a square the factors are the same
--   Multiplying            what `product` requires
--   Multiplied             what it ensures
--   same-multiplying same-multiplied   both, for equal parts and results
--   zeros-clean            a list of zeros is clean
--   Fits                   the factors take few places in blocks
--   square_needs product_needs square-done   by blocks: what is required, and what a square leaves
--   Long                   the parts are long enough to be halved
--   places-few             a part takes at least its places in blocks
--   shorter                equal parts have rows of equal length
--   half-inner half_start  places of the halves do not wrap
--   fold-first fold-second what `fold` requires
--   upper-results lower-results   the places of half of the results
--   even-multiplying odd-multiplying folded-multiplying   what the three products require
-- Assumes nothing.
use Rattle.std.specs.Prelude.{ℕ, ◌+◌, ◌*◌, ◌/◌, ◌<◌, ◌≤◌, ◌^◌, Bool, false, true, List, ◌≡◌, length}
use Rattle.std.proofs.Common.{mul-add, mul_comm, mul-le-mul_left, mul-le-mul_right, mul_left_comm, arith, ap, ◌∙◌}
use Rattle.std.proofs.lemmas.List.Edits.{sets}
use Rattle.std.proofs.Math.Seq.{length-sets}
use Rattle.definition.specs.KinoshitaLi.{cut_product2_at, plane, window}
use Rattle.grids.specs.Grid.{Clean}
use Rattle.grids.specs.Parts.{Few, Lies, Room, Source, SquarePut, block_places, grid_at, packed, window-0}
use Rattle.grids.specs.declared.Grid.{Grid}
use Rattle.summed_product.specs.Zeros.{Zeros}
use Rattle.double_parity.specs.Halves.{even_half, folded, folded_part, lies-even, lies-folded, lies-odd, lower_half, odd_half, upper, upper_half}
use Rattle.double_parity.specs.declared.Results.{Results}

abbrev pub product_of : ℕ → Grid → List ℕ → Grid → List ℕ → ℕ → ℕ → ℕ → ℕ
product_of p g w h v low = window low (cut_product2_at p (grid_at g w) (grid_at h v))

-- the first places of z become the results
abbrev pub Multiplied : ℕ → Grid → List ℕ → Grid → List ℕ → Results → List ℕ → List ℕ → Type 0
Multiplied p g w h v t z z' = z' ≡ sets z 0 (packed t.turned t.places t.rows (product_of p g w h v t.low))

-- where it is a square the factors are the same, and its rows begin with the first
pub record Squared (square : Bool) (g : Grid) (w : List ℕ) (h : Grid) (v : List ℕ) (low : ℕ) : Type 0 where
  pub part : square ≡ true → g ≡ h
  pub list : square ≡ true → w ≡ v
  pub first : square ≡ true → low ≡ 0

pub record Multiplying (p : ℕ) (square : Bool) (g : Grid) (w : List ℕ) (h : Grid) (v : List ℕ) (t : Results) (z : List ℕ) : Type 0 where
  pub modulus : 0 < p
  pub first : Lies g w
  pub second : Lies h v
  pub first_fits : length w < 2 ^ 64
  pub second_fits : length v < 2 ^ 64
  pub few : block_places t.turned g.length g.count ≤ 4608
  pub many : block_places t.turned h.length h.count ≤ 9216
  pub short : g.length ≤ 2 ^ 30
  pub rows : g.count ≤ 2 ^ 30
  pub more : h.count ≤ 2 ^ 30
  pub like : h.length ≡ g.length
  pub squared : Squared square g w h v t.low
  pub results : t.rows * t.places ≤ 8192
  pub room : Room t.turned t.places t.rows t.low z

-- equal parts and results
module _ {p : ℕ} {square : Bool} {g g' : Grid} {w : List ℕ} {h h' : Grid} {v : List ℕ} {t t' : Results} {z : List ℕ} (eg : g ≡ g') (eh : h ≡ h')
    (et : t ≡ t') where
  pub same-multiplying : Multiplying p square g' w h' v t' z → Multiplying p square g w h v t z
  same-multiplying m = rw (eg, eh, et) m

pub same-multiplied : (p : ℕ) {g g' : Grid} (w : List ℕ) {h h' : Grid} (v : List ℕ) {t t' : Results} (z : List ℕ) {z' : List ℕ}
    → g ≡ g' → h ≡ h' → t ≡ t' → Multiplied p g w h v t z z' → Multiplied p g' w h' v t' z z'
same-multiplied p w v z eg eh et e = rw (eg, eh, et) at e

pub shorter : {g h : Grid} {n : ℕ} → g ≡ h → h.length < n → g.length < n
shorter e b = rw e b

-- a list of zeros is clean
pub zeros-clean : {p n : ℕ} {l : List ℕ} → 0 < p → Zeros n l → Clean p l
zeros-clean positive z = record {
  below = record { place = λ k. rw (z.blank k) positive };
  zeros = λ k b. z.blank k;
}

-- the factors take at most n places in blocks, the second one twice as many
pub record Fits (turned : Bool) (g h : Grid) (n : ℕ) : Type 0 where
  pub first : block_places turned g.length g.count ≤ n
  pub second : block_places turned h.length h.count ≤ 2 * n

-- by blocks, in lists of zeros
module _ {p : ℕ} {square : Bool} {g : Grid} {w : List ℕ} {h : Grid} {v : List ℕ} {t : Results} {z : List ℕ}
    (m : Multiplying p square g w h v t z) {n : ℕ} (few : Fits t.turned g h n) {left : List ℕ} (zeros : Zeros (8 + n) left) where
  first-source : Source p t.turned g w left × Few t.turned g.length g.count
  first-source = (
    record { modulus = m.modulus; clean = zeros-clean m.modulus zeros; room = omega (arith, few.first, zeros.size); lies = m.first },
    record { few = omega (arith, m.few) },
  )

  pub square_needs : square ≡ true
      → Source p t.turned g w left × Few t.turned g.length g.count × Room t.turned t.places t.rows 0 z
  square_needs e = (first-source.0, first-source.1, rw (m.squared.first e) at m.room)

  pub product_needs : {right : List ℕ} → Zeros (8 + 2 * n) right
      → Source p t.turned g w left × Few t.turned g.length g.count × Source p t.turned h v right
      × Room t.turned t.places t.rows t.low z
  product_needs zeros' = (
    first-source.0,
    first-source.1,
    record { modulus = m.modulus; clean = zeros-clean m.modulus zeros'; room = omega (arith, few.second, zeros'.size); lies = m.second },
    m.room,
  )

pub square-done : {p : ℕ} {square : Bool} {g : Grid} {w : List ℕ} {h : Grid} {v : List ℕ} {t : Results} {z : List ℕ}
    → Multiplying p square g w h v t z → square ≡ true → {z' left : List ℕ} → SquarePut p t.turned t.places t.rows (grid_at g w) z z' left
    → Multiplied p g w h v t z z'
square-done m e put = put.put ∙ rw (m.squared.first e, window-0, ← m.squared.part e, ← m.squared.list e)

pub record Long (g : Grid) (t : Results) : Type 0 where
  pub length : 16 ≤ g.length
  pub places : 16 ≤ t.places

-- parts take at least their places in blocks, and no more where they are shorter
pub places-few : (turned : Bool) (n rows : ℕ) → rows * n ≤ block_places turned n rows
unfolding block_places
places-few true n rows = omega (arith, mul-add n rows 8, mul_comm n rows)
places-few false n rows = omega (arith, mul-add rows n 8)

blocks_fewer : (turned : Bool) {m n : ℕ} (rows : ℕ) → m ≤ n → block_places turned m rows ≤ block_places turned n rows
unfolding block_places
blocks_fewer true rows h = mul-le-mul_right (rows + 8) h
blocks_fewer false rows h = mul-le-mul_left rows (omega arith)

-- half of at least 16 places, rounded up
half-places : (rows n : ℕ) → 16 ≤ n → 32 * (rows * upper n) ≤ 17 * (rows * n)
half-places rows n h =
    omega (arith, mul-le-mul_left {m = 32 * upper n} {n = 17 * n} rows (omega arith), mul_left_comm rows 32 (upper n), mul_left_comm rows 17 n)

module _ {p : ℕ} {square : Bool} {g : Grid} {w : List ℕ} {h : Grid} {v : List ℕ} {t : Results} {z : List ℕ}
    (m : Multiplying p square g w h v t z) (long : Long g t) where
  long_second : 16 ≤ h.length
  long_second = rw m.like long.length

  pub half-inner : (2 * g.inner < 2 ^ 64) × (2 * h.inner < 2 ^ 64)
  half-inner = (omega (arith, m.first.columns 2 (omega (arith, long.length))), omega (arith, m.second.columns 2 (omega (arith, long_second))))

  pub half_start : (g.at + g.inner < 2 ^ 64) × (h.at + h.inner < 2 ^ 64)
  half_start = (omega (arith, m.first.columns 1 (omega (arith, long.length))), omega (arith, m.second.columns 1 (omega (arith, long_second))))

  -- the places of the parts, of their halves, and of half of the results
  first-places : g.count * g.length ≤ 4608
  first-places = omega (arith, m.few, places-few t.turned g.length g.count)

  second-places : h.count * h.length ≤ 9216
  second-places = omega (arith, m.many, places-few t.turned h.length h.count)

  first-half : g.count * upper g.length ≤ 4896
  first-half = omega (arith, first-places, half-places g.count g.length long.length)

  second-half : h.count * upper h.length ≤ 4896
  second-half = omega (arith, second-places, half-places h.count h.length long_second)

  pub upper-results : t.rows * upper t.places ≤ 4352
  upper-results = omega (arith, m.results, half-places t.rows t.places long.places)

  pub lower-results : t.rows * (t.places / 2) ≤ 4352
  lower-results = omega (arith, upper-results, mul-le-mul_left {m = t.places / 2} {n = upper t.places} t.rows (omega arith))

  results-room : (n : ℕ) → n ≤ t.places → {l : List ℕ} → t.rows * n ≤ length l → Room t.turned n t.rows t.low l
  results-room n few room = record { room = room; places = omega (arith, m.room.places); rows = m.room.rows }

  squared_by : {G H : Grid} {l l' : List ℕ} → (square ≡ true → G ≡ H) → (square ≡ true → l ≡ l') → Squared square G l H l' t.low
  squared_by part list = record { part = part; list = list; first = m.squared.first }

  module _ {l : List ℕ} (size : length l ≡ 4352) where
    pub even-multiplying : Multiplying p square (even_half g) w (even_half h) v (upper_half t) l
    even-multiplying = record {
      modulus = m.modulus;
      first = lies-even m.first;
      second = lies-even m.second;
      first_fits = m.first_fits;
      second_fits = m.second_fits;
      few = omega (arith, m.few, blocks_fewer t.turned {m = upper g.length} {n = g.length} g.count (omega arith));
      many = omega (arith, m.many, blocks_fewer t.turned {m = upper h.length} {n = h.length} h.count (omega arith));
      short = omega (arith, m.short);
      rows = m.rows;
      more = m.more;
      like = ap upper m.like;
      squared = squared_by (λ e. ap even_half (m.squared.part e)) m.squared.list;
      results = omega (arith, upper-results);
      room = results-room (upper t.places) (omega arith) (rw size upper-results);
    }

    pub odd-multiplying : Multiplying p square (odd_half g) w (odd_half h) v (lower_half t) l
    odd-multiplying = record {
      modulus = m.modulus;
      first = lies-odd m.first (omega (arith, long.length)) m.first_fits;
      second = lies-odd m.second (omega (arith, long_second)) m.second_fits;
      first_fits = m.first_fits;
      second_fits = m.second_fits;
      few = omega (arith, m.few, blocks_fewer t.turned {m = g.length / 2} {n = g.length} g.count (omega arith));
      many = omega (arith, m.many, blocks_fewer t.turned {m = h.length / 2} {n = h.length} h.count (omega arith));
      short = omega (arith, m.short);
      rows = m.rows;
      more = m.more;
      like = ap (λ n. n / 2) m.like;
      squared = squared_by (λ e. ap odd_half (m.squared.part e)) m.squared.list;
      results = omega (arith, lower-results);
      room = results-room (t.places / 2) (omega arith) (rw size lower-results);
    }

  -- the sums of the halves, in lists that were made alike
  module _ {s : List ℕ} (blank : Zeros 4896 s) where
    abbrev size : length s ≡ 4896
    size = blank.size

    pub fold-first : (0 < p) × Lies g w × (g.length ≤ 2 ^ 32) × (g.count * upper g.length ≤ length s)
    fold-first = (m.modulus, m.first, omega (arith, m.short), rw size first-half)

    pub fold-second : (0 < p) × Lies h v × (h.length ≤ 2 ^ 32) × (h.count * upper h.length ≤ length s)
    fold-second = (m.modulus, m.second, omega (arith, m.short, m.like), rw size second-half)

    -- they have been written
    module _ {s₁ s₂ : List ℕ} (first : s₁ ≡ sets s 0 (plane (upper g.length) g.count (folded p (grid_at g w))))
        (second : s₂ ≡ sets s 0 (plane (upper h.length) h.count (folded p (grid_at h v)))) where
      pub folded-multiplying : {l : List ℕ} → length l ≡ 4352 → Multiplying p square (folded_part g) s₁ (folded_part h) s₂ (lower_half t) l
      folded-multiplying l-size = record {
        modulus = m.modulus;
        first = lies-folded g w m.modulus s fold-first.3 first fold-first.2 (omega (arith, size));
        second = lies-folded h v m.modulus s fold-second.3 second fold-second.2 (omega (arith, size));
        first_fits = rw (first, length-sets, size) (omega arith);
        second_fits = rw (second, length-sets, size) (omega arith);
        few = omega (arith, m.few, blocks_fewer t.turned {m = upper g.length} {n = g.length} g.count (omega arith));
        many = omega (arith, m.many, blocks_fewer t.turned {m = upper h.length} {n = h.length} h.count (omega arith));
        short = omega (arith, m.short);
        rows = m.rows;
        more = m.more;
        like = ap upper m.like;
        squared = squared_by (λ e. ap folded_part (m.squared.part e)) (λ e. rw (first, second, m.squared.part e, m.squared.list e));
        results = omega (arith, lower-results);
        room = results-room (t.places / 2) (omega arith) (rw l-size lower-results);
      }
