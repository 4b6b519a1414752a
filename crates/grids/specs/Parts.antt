-- Products of parts of polynomials in x and y: places of some rows, a grid whose blocks are rows.
--
--   grid_at g w             the polynomial that a part holds
--   orient turned g        its blocks: its rows or, turned, its columns
--   results_of turned m count    the blocks of m places of each of so many rows
--   packed turned m count f     a polynomial below x^m and y^count in such blocks
--   facing turned f        the polynomial, x and y exchanged where it is turned
--   Lies                   the places of a part lie in a list
--   Source                 a part that can be read, into a clean list with room for it
--   Few                    the first factor is not too long
--   Room                   room for the result
--   SquarePut ProductPut   the contracts of `square` and `product`
--   load_needs             what `load` requires
--   read_blocks read_clean read_values read_few   what it leaves
--   room-target square-target   what `block_product::multiply` requires
--   window-0               all rows, from the first on
--   square-put product-put      what it leaves
-- Assumes nothing.
use Rattle.std.specs.Prelude.{ℕ, ◌+◌, ◌*◌, ◌%◌, ◌<◌, ◌≤◌, ◌^◌, Bool, cond, List, ◌≡◌, refl, ltb, length}
use Rattle.std.proofs.Math.Decide.{dec_lt}
use Rattle.std.proofs.Common.{mul_comm, zero-add, ◌∙◌}
use Rattle.std.proofs.Math.Nat.{zero-mod}
use native.Mathlib.Omega.{arith}
use borrow.Author.Tests.{le-ltb, lt-ltb}
use Rattle.std.proofs.Math.Bool.{false, true}
use Rattle.std.proofs.Math.Path.{ap, fun_ext}
use Rattle.std.proofs.lemmas.List.Edits.{sets}
use Rattle.block_product.specs.Results.{Target, product_blocks}
use Rattle.blocks.specs.Blocks.{Blocked, blocks_of}
use Rattle.blocks.specs.declared.Blocks.{Blocks}
use Rattle.definition.specs.KinoshitaLi.{cut_product2_at, plane, window}
use Rattle.definition.specs.Lists.{coefficient}
use Rattle.planes.specs.Products.{residues2, turned-product}
use Rattle.planes.specs.Products as planes
use Rattle.grids.specs.Grid.{Clean, Readable, grid_place, grid_value, loaded, loaded_at, loaded-clean}
use Rattle.grids.specs.declared.Grid.{Grid}

unfoldable pub grid_at : Grid → List ℕ → ℕ → ℕ → ℕ
grid_at g w j i = cond (ltb j g.count) (cond (ltb i g.length) (coefficient w (g.at + j * g.outer + i * g.inner)) 0) 0

unfoldable pub orient : Bool → Grid → Grid
orient turned g = cond turned record { at = g.at; outer = g.inner; inner = g.outer; count = g.length; length = g.count } g

unfoldable pub results_of : Bool → ℕ → ℕ → Blocks
results_of turned m count = cond turned record { count = m; length = count } record { count = count; length = m }

unfoldable pub packed : Bool → ℕ → ℕ → (ℕ → ℕ → ℕ) → List ℕ
packed turned m count f = cond turned (plane count m (planes.turned f)) (plane m count f)

-- the places that the blocks of rows of n places take, with the zeros around them
unfoldable pub block_places : Bool → ℕ → ℕ → ℕ
block_places turned n rows = cond turned (n * (rows + 8)) (rows * (n + 8))

pub record Lies (g : Grid) (w : List ℕ) : Type 0 where
  pub columns : (i : ℕ) → i < g.length → g.at + i * g.inner < 2 ^ 64
  pub lines : (j : ℕ) → j < g.count → g.at + j * g.outer < 2 ^ 64
  pub inside : (j i : ℕ) → j < g.count → i < g.length → g.at + j * g.outer + i * g.inner < length w

pub record Source (p : ℕ) (turned : Bool) (g : Grid) (w list : List ℕ) : Type 0 where
  pub modulus : 0 < p
  pub clean : Clean p list
  pub room : 8 + block_places turned g.length g.count ≤ length list
  pub lies : Lies g w

pub record Few (turned : Bool) (n rows : ℕ) : Type 0 where
  pub few : block_places turned n rows ≤ 5461

pub record Room (turned : Bool) (m count low : ℕ) (z : List ℕ) : Type 0 where
  pub room : count * m ≤ length z
  pub places : m < 2 ^ 31
  pub rows : low + count < 2 ^ 31

pub record SquarePut (p : ℕ) (turned : Bool) (m count : ℕ) (f : ℕ → ℕ → ℕ) (z z' left : List ℕ) : Type 0 where
  pub put : z' ≡ sets z 0 (packed turned m count (cut_product2_at p f f))
  pub clean : Clean p left

pub record ProductPut (p : ℕ) (turned : Bool) (n count low : ℕ) (f g : ℕ → ℕ → ℕ) (z z' left right : List ℕ) : Type 0 where
  pub put : z' ≡ sets z 0 (packed turned n count (window low (cut_product2_at p f g)))
  pub clean-left : Clean p left
  pub clean-right : Clean p right

pub source_grid : {p : ℕ} {turned : Bool} {g : Grid} {w l : List ℕ} → Source p turned g w l
    → (Readable (orient turned g) w) × (8 + (orient turned g).count * ((orient turned g).length + 8) ≤ length l)
unfolding orient block_places
source_grid {turned = true} s = (record { begins = s.lies.columns; inside = λ l k b c. omega (arith, s.lies.inside k l c b) }, s.room)
source_grid {turned = false} s = (record { begins = s.lies.lines; inside = s.lies.inside }, s.room)

pub few-blocks : {turned : Bool} (g : Grid) → Few turned g.length g.count → (orient turned g).count * ((orient turned g).length + 8) ≤ 5461
unfolding orient block_places
few-blocks {turned = true} g few = few.few
few-blocks {turned = false} g few = few.few

-- the residues of a polynomial, and of it turned
abbrev residue : ℕ → (ℕ → ℕ → ℕ) → ℕ → ℕ → ℕ
residue p f j i = f j i % p

abbrev pub facing : Bool → (ℕ → ℕ → ℕ) → ℕ → ℕ → ℕ
facing turned f = cond turned (planes.turned f) f

module _ (p : ℕ) (g : Grid) (w : List ℕ) where
  value-at : (j i : ℕ) → grid_value p w g j i ≡ grid_at g w j i % p
  unfolding grid_at grid_value
  value-at j i = go (dec_lt j g.count) (dec_lt i g.length)
    where
      go : Dec (j < g.count) → Dec (i < g.length) → grid_value p w g j i ≡ grid_at g w j i % p
      go (yes b) (yes c) = rw (lt-ltb j g.count b, lt-ltb i g.length c)
      go (yes b) (no c) = rw (lt-ltb j g.count b, le-ltb i g.length (omega arith), zero-mod)
      go (no b) c = rw (le-ltb j g.count (omega arith), zero-mod)

  exchanged : (j i : ℕ) → grid_value p w (orient true g) i j ≡ grid_value p w g j i
  unfolding grid_value orient
  exchanged j i = go (dec_lt j g.count) (dec_lt i g.length)
    where
      go : Dec (j < g.count) → Dec (i < g.length) → grid_value p w (orient true g) i j ≡ grid_value p w g j i
      go (yes b) (yes c) =
          let same : g.at + i * g.inner + j * g.outer ≡ g.at + j * g.outer + i * g.inner = omega arith in
          rw (lt-ltb j g.count b, lt-ltb i g.length c, same)
      go (yes b) (no c) = rw (lt-ltb j g.count b, le-ltb i g.length (omega arith))
      go (no b) (yes c) = rw (le-ltb j g.count (omega arith), lt-ltb i g.length c)
      go (no b) (no c) = rw (le-ltb j g.count (omega arith), le-ltb i g.length (omega arith))

  grid_values : (turned : Bool) → grid_value p w (orient turned g) ≡ facing turned (residue p (grid_at g w))
  unfolding orient planes.turned
  grid_values true = fun_ext λ i. fun_ext λ j. exchanged j i ∙ value-at j i
  grid_values false = fun_ext λ j. fun_ext λ i. value-at j i

-- a product of what was read
module _ {p : ℕ} (l : 0 < p) (f g : ℕ → ℕ → ℕ) where
  turned-blocks : (i j : ℕ) → cut_product2_at p (planes.turned (residue p f)) (planes.turned (residue p g)) i j ≡ cut_product2_at p f g j i
  unfolding cut_product2_at
  turned-blocks i j = ap (λ s. s % p) (turned-product (residue p f) (residue p g) j i) ∙ residues2 l f g j i

  pub packed-product : (turned : Bool) (n count low : ℕ) → {F G : ℕ → ℕ → ℕ} → F ≡ facing turned (residue p f) → G ≡ facing turned (residue p g)
      → product_blocks p F G (cond turned 0 low) (cond turned low 0) (results_of turned n count) ≡ packed turned n count (window low (cut_product2_at p f g))
  unfolding results_of packed window planes.turned
  packed-product true n count low e h =
      ap (plane count n) (fun_ext λ i. fun_ext λ j. rw (e, h, zero-add) (turned-blocks i (low + j)))
  packed-product false n count low e h =
      ap (plane n count) (fun_ext λ j. fun_ext λ i. rw (e, h, zero-add) (residues2 l f g (low + j) i))

-- a part, read into a list
module _ {p : ℕ} {turned : Bool} {part : Grid} {w l₀ : List ℕ} (source : Source p turned part w l₀) {g : Grid} (eg : g ≡ orient turned part) where
  pub load_needs : (0 < p) × Readable g w × (8 + g.count * (g.length + 8) ≤ length l₀)
  load_needs = (source.modulus, rw eg (source_grid source).0, rw eg (source_grid source).1)

  module _ {l : List ℕ} (el : l ≡ sets l₀ 8 (plane (g.length + 8) g.count (grid_place p w g))) where
    abbrev b : Blocks
    b = record { count = g.count; length = g.length }

    pub read_blocks : Blocked p b l
    read_blocks = loaded source.modulus w g source.clean load_needs.2 el

    pub read_clean : Clean p l
    read_clean = loaded-clean source.modulus w g source.clean load_needs.2 el

    pub read_values : blocks_of b l ≡ facing turned (residue p (grid_at part w))
    read_values =
        (fun_ext λ i. fun_ext λ k. loaded_at source.modulus w g source.clean load_needs.2 el i k)
        ∙ ap (grid_value p w) eg
        ∙ grid_values p part w turned

    pub read_few : Few turned part.length part.count → g.count * (g.length + 8) ≤ 5461
    read_few few = rw eg (few-blocks part few)

pub room-target : {turned : Bool} {m count low : ℕ} {z : List ℕ} → Room turned m count low z → {t : Blocks} → t ≡ results_of turned m count
    → Target (cond turned 0 low) (cond turned low 0) t z
unfolding results_of
room-target {turned = true} {m} {count} o e =
    rw e record { room = rw (mul_comm m count) o.room; places = omega (arith, o.rows); blocks = omega (arith, o.places) }
room-target {turned = false} o e = rw e record { room = o.room; places = omega (arith, o.places); blocks = omega (arith, o.rows) }

same_first : (turned : Bool) → ◌≡◌ {A = ℕ} (cond turned 0 0) 0
same_first true = refl
same_first false = refl

pub square-target : {turned : Bool} {m count : ℕ} {z : List ℕ} → Room turned m count 0 z → {t : Blocks} → t ≡ results_of turned m count → Target 0 0 t z
square-target {turned} o {t} e = rw same_first at (room-target o e)

pub window-0 : (a : ℕ → ℕ → ℕ) → window 0 a ≡ a
unfolding window
window-0 a = fun_ext λ j. rw zero-add

pub square-put : {p : ℕ} → 0 < p → (f : ℕ → ℕ → ℕ) (turned : Bool) (m count : ℕ) {F : ℕ → ℕ → ℕ} {t : Blocks} {z z' left : List ℕ}
    → F ≡ facing turned (residue p f) → t ≡ results_of turned m count → z' ≡ sets z 0 (product_blocks p F F 0 0 t) → Clean p left
    → SquarePut p turned m count f z z' left
square-put {p} l f turned m count {F} {t} {z} e et ez clean = record {
  put =
      ez ∙ ap (sets z 0)
      (ap (product_blocks p F F 0 0) et ∙ (rw (same_first, window-0) at (packed-product l f f turned m count 0 e e)));
  clean = clean;
}

pub product-put : {p : ℕ} → 0 < p → (f g : ℕ → ℕ → ℕ) (turned : Bool) (n count low first begin : ℕ) {F G : ℕ → ℕ → ℕ} {t : Blocks}
    {z z' left right : List ℕ} → F ≡ facing turned (residue p f) → G ≡ facing turned (residue p g) → t ≡ results_of turned n count
    → first ≡ cond turned 0 low → begin ≡ cond turned low 0
    → z' ≡ sets z 0 (product_blocks p F G first begin t) → Clean p left → Clean p right → ProductPut p turned n count low f g z z' left right
product-put {p} l f g turned n count low first begin {F} {G} {t} {z} e h et ef eb ez cl cr = record {
  put = rw (et, ef, eb, packed-product l f g turned n count low e h) at ez;
  clean-left = cl;
  clean-right = cr;
}
