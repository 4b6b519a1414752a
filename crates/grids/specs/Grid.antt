-- Blocks in a buffer, read into a list of blocks.
--
--   block_place p n w at inner k   place k of a block of n places modulo p, and 0 behind them
--   grid_place p w g l k           place k of block l
--   Readable g w                  the places of the blocks lie in w
--   Clean p l                     residues modulo p, the first eight zero
--   loaded loaded-clean           what is read is a list of blocks, and clean
--   grid_value loaded_at           a place of it
-- Assumes nothing.
use Rattle.std.specs.Prelude.{ℕ, zero, suc, ◌+◌, ◌-◌, ◌*◌, ◌%◌, ◌<◌, ◌≤◌, ◌^◌, cond, List, ◌≡◌, ltb, length, get_or}
use Rattle.std.proofs.Math.Decide.{dec_lt}
use Rattle.std.proofs.Common.{mod-lt, mul-le-mul_right, suc-mul, ◌∙◌}
use native.Mathlib.Omega.{arith}
use borrow.Author.Tests.{le-ltb, lt-ltb}
use Rattle.std.proofs.Math.Arith.{digits_div, digits_mod}
use Rattle.std.proofs.lemmas.List.Edits.{sets}
use Rattle.std.proofs.Math.Seq.{length-sets}
use Rattle.algebra.specs.Lists.{coefficient_beyond, coefficient-tabulate}
use Rattle.algebra.specs.Rows.{length-plane}
use Rattle.blocks.specs.Blocks.{Blocked, blocks_of, block_at, block_beyond}
use Rattle.blocks.specs.declared.Blocks.{Blocks}
use Rattle.buffer.specs.Segments.{coefficient-segment, length-segment, segment}
use Rattle.buffer.specs.Written.{get_or-sets-inside, get_or-sets_other}
use Rattle.definition.specs.KinoshitaLi.{plane, plane_place}
use Rattle.definition.specs.Lists.{coefficient}
use Rattle.rows.specs.Rows.{Below}
use Rattle.grids.specs.declared.Grid.{Grid}

unfoldable pub block_place : ℕ → ℕ → List ℕ → ℕ → ℕ → ℕ → ℕ
block_place p n w at inner k = cond (ltb k n) (coefficient w (at + k * inner) % p) 0

abbrev pub grid_place : ℕ → List ℕ → Grid → ℕ → ℕ → ℕ
grid_place p w g l = block_place p g.length w (g.at + l * g.outer) g.inner

-- place k of block l modulo p, and 0 where there is none
unfoldable pub grid_value : ℕ → List ℕ → Grid → ℕ → ℕ → ℕ
grid_value p w g l k = cond (ltb l g.count) (cond (ltb k g.length) (coefficient w (g.at + l * g.outer + k * g.inner) % p) 0) 0

pub record Readable (g : Grid) (w : List ℕ) : Type 0 where
  pub begins : (l : ℕ) → l < g.count → g.at + l * g.outer < 2 ^ 64
  pub inside : (l k : ℕ) → l < g.count → k < g.length → g.at + l * g.outer + k * g.inner < length w

pub record Clean (p : ℕ) (l : List ℕ) : Type 0 where
  pub below : Below p l
  pub zeros : (k : ℕ) → k < 8 → get_or l k 0 ≡ 0

module _ (p n : ℕ) (w : List ℕ) (at inner k : ℕ) where
  pub block_inside : k < n → block_place p n w at inner k ≡ coefficient w (at + k * inner) % p
  unfolding block_place
  block_inside h = rw (lt-ltb k n h)

  pub block-behind : n ≤ k → block_place p n w at inner k ≡ 0
  unfolding block_place
  block-behind h = rw (le-ltb k n h)

block-below : {p : ℕ} → 0 < p → (n : ℕ) (w : List ℕ) (at inner k : ℕ) → block_place p n w at inner k < p
block-below {p} l n w at inner k = go (dec_lt k n)
  where
    go : Dec (k < n) → block_place p n w at inner k < p
    go (yes h) = rw (block_inside p n w at inner k h) (mod-lt _ l)
    go (no h) = rw (block-behind p n w at inner k (omega arith)) l

-- the blocks have been read
module _ {p : ℕ} (positive : 0 < p) (w : List ℕ) (g : Grid) {l₀ l : List ℕ} (clean : Clean p l₀)
    (room : 8 + g.count * (g.length + 8) ≤ length l₀)
    (e : l ≡ sets l₀ 8 (plane (g.length + 8) g.count (grid_place p w g))) where
  abbrev n : ℕ
  n = g.length + 8

  abbrev P : List ℕ
  P = plane n g.count (grid_place p w g)

  size : length P ≡ g.count * n
  size = length-plane n g.count (grid_place p w g)

  abbrev b : Blocks
  b = record { count = g.count; length = g.length }

  within : (i k : ℕ) → i < g.count → k < n → i * n + k < g.count * n
  within i k h c = omega (arith, mul-le-mul_right n h, suc-mul i n)

  -- place k of block i, and the eight behind it
  at : (i k : ℕ) → i < g.count → k < n → get_or l (8 + (i * n + k)) 0 ≡ grid_place p w g i k
  unfolding plane plane_place coefficient
  at i k h c =
      rw (e, get_or-sets-inside l₀ 8 P (i * n + k) 0 (rw size room) (rw size (within i k h c)))
      (coefficient-tabulate (g.count * n) (plane_place n (grid_place p w g)) (i * n + k) (within i k h c)
      ∙ rw (digits_div i c, digits_mod i c))

  first : (k : ℕ) → k < 8 → get_or l k 0 ≡ 0
  first k h = rw (e, get_or-sets_other l₀ 8 P k 0 (λ i c d. omega arith)) (clean.zeros k h)

  behind : (i k : ℕ) → i < g.count → k < 8 → get_or l (8 + (i * n + (g.length + k))) 0 ≡ 0
  behind i k h c = at i (g.length + k) h (omega arith) ∙ block-behind p g.length w (g.at + i * g.outer) g.inner (g.length + k) (omega arith)

  before : (i k : ℕ) → i < g.count → k < 8 → get_or l (8 + i * n - 8 + k) 0 ≡ 0
  before zero k h c =
      let same : 8 + 0 * n - 8 + k ≡ k = omega arith in
      rw same (first k c)
  before (suc i) k h c =
      let same : 8 + suc i * n - 8 + k ≡ 8 + (i * n + (g.length + k)) = omega (arith, suc-mul i n) in
      rw same (behind i k (omega arith) c)

  table_below : (k : ℕ) → k < g.count * n → get_or P k 0 < p
  unfolding plane plane_place coefficient
  table_below k d = rw (coefficient-tabulate (g.count * n) (plane_place n (grid_place p w g)) k d) (block-below positive _ _ _ _ _)

  everywhere : (j : ℕ) → get_or l j 0 < p
  everywhere j = go (dec_lt j 8) (dec_lt j (8 + length P))
    where
      go : Dec (j < 8) → Dec (j < 8 + length P) → get_or l j 0 < p
      go (yes h) c = rw (first j h) positive
      go (no h) (yes c) =
          let same : j ≡ 8 + (j - 8) = omega arith in
          rw (same, e, get_or-sets-inside l₀ 8 P (j - 8) 0 (rw size room) (omega arith)) (table_below (j - 8) (omega (arith, size)))
      go (no h) (no c) = rw (e, get_or-sets_other l₀ 8 P j 0 (λ i d f. omega arith)) (clean.below.place j)

  pub loaded : Blocked p b l
  loaded = record {
    below = record { place = everywhere };
    padded = λ i h. record {
      room = omega arith;
      fits = rw (e, length-sets) (omega (arith, room, within i (g.length + 7) h (omega arith)));
      before = λ k c. before i k h c;
      behind = λ k c.
          let same : 8 + i * n + g.length + k ≡ 8 + (i * n + (g.length + k)) = omega arith in
          rw same (behind i k h c);
    };
  }

  pub loaded-clean : Clean p l
  loaded-clean = record { below = record { place = everywhere }; zeros = first }

  pub loaded_at : (i k : ℕ) → blocks_of b l i k ≡ grid_value p w g i k
  unfolding grid_value coefficient
  loaded_at i k = go (dec_lt i g.count) (dec_lt k g.length)
    where
      go : Dec (i < g.count) → Dec (k < g.length) → blocks_of b l i k ≡ grid_value p w g i k
      go (yes h) (yes c) =
          let same : 8 + i * n + k ≡ 8 + (i * n + k) = omega arith in
          rw (
            block_at b l i h,
            coefficient-segment l (8 + i * n) g.length k c,
            same,
            at i k h (omega arith),
            block_inside p g.length w (g.at + i * g.outer) g.inner k c,
            lt-ltb i g.count h,
            lt-ltb k g.length c,
          )
      go (yes h) (no c) =
          rw (block_at b l i h, lt-ltb i g.count h, le-ltb k g.length (omega arith))
          (coefficient_beyond (segment l (8 + i * n) g.length) k (omega (arith, length-segment l (8 + i * n) g.length)))
      go (no h) d = rw (block_beyond b l i (omega arith) k, le-ltb i g.count (omega arith))
