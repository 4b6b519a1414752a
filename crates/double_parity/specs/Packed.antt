-- Polynomials in x and y in lists: rows one after the other, and blocks.
--
--   rows_fit rows_next        rows that are written from place 0 on: room for a row, and one more
--   written_at                a place of rows that were written
--   packed_agree              a packed list depends on the places that it has
--   packed-at packed-below    a place of a packed list, and all places are residues
-- Assumes nothing.
use Rattle.std.specs.Prelude.{ℕ, ◌+◌, ◌*◌, ◌/◌, ◌%◌, ◌<◌, ◌≤◌, Bool, List, ◌≡◌, length, get_or}
use Rattle.std.proofs.Math.Decide.{dec_lt}
use Rattle.std.proofs.Common.{mul_comm, mul-le-mul_right, suc-mul, zero-add, arith, ◌∙◌}
use Rattle.std.proofs.Math.Bool.{false, true}
use Rattle.std.proofs.lemmas.List.Edits.{sets}
use Rattle.algebra.specs.Lists.{coefficient-tabulate, length-tabulate}
use Rattle.algebra.specs.Rows.{coefficient-plane, length-plane, plane_agree}
use Rattle.buffer.specs.Written.{get_or-sets-inside, get_or-sets_other}
use Rattle.definition.specs.KinoshitaLi.{plane, plane_place}
use Rattle.definition.specs.Lists.{coefficient, tabulate}
use Rattle.double_rows.specs.Places.{packed_at}
use Rattle.grids.specs.Parts.{packed}
use Rattle.planes.specs.Products as planes
use Rattle.planes.specs.Rows.{plane-fits, plane-next}

pub rows_fit : {N : ℕ} (r count j : ℕ) → count * r ≤ N → j < count → j * r + r ≤ N
rows_fit {N} r count j room h = omega (arith, plane-fits {N = N} 0 r count j (omega arith) h)

pub rows_next : {w w' : List ℕ} (w₀ : List ℕ) (r j : ℕ) (a : ℕ → ℕ → ℕ) → w ≡ sets w₀ 0 (plane r j a) → w' ≡ sets w (j * r) (tabulate r (a j))
    → w' ≡ sets w₀ 0 (plane r (j + 1) a)
rows_next w₀ r j a e f = plane-next w₀ 0 r j a e (rw (zero-add (j * r)) f)

pub written_at : (z : List ℕ) (a b : ℕ) (g : ℕ → ℕ → ℕ) → b * a ≤ length z → (j i : ℕ) → j < b → i < a
    → coefficient (sets z 0 (plane a b g)) (j * a + i) ≡ g j i
unfolding coefficient
written_at z a b g fits j i c d =
    rw zero-add at (get_or-sets-inside z 0 (plane a b g) (j * a + i) 0 (rw (length-plane a b g, zero-add) fits)
    (rw (length-plane a b g) (omega (arith, mul-le-mul_right a c, suc-mul j a))))
    ∙ coefficient-plane a b g j i c d

rows-below : (p : ℕ) (z : List ℕ) → ((k : ℕ) → get_or z k 0 < p) → (k : ℕ) (g : ℕ → ℕ → ℕ) (a b : ℕ) → b * a ≤ length z → ((j i : ℕ) → g j i < p)
    → get_or (sets z 0 (plane a b g)) k 0 < p
unfolding plane plane_place coefficient
rows-below p z old k g a b fits small = go (dec_lt k (b * a))
  where
    go : Dec (k < b * a) → get_or (sets z 0 (plane a b g)) k 0 < p
    go (yes h) =
        rw (
          ← zero-add k,
          get_or-sets-inside z 0 (plane a b g) k 0 (rw (length-tabulate, zero-add) fits) (rw length-tabulate h),
          coefficient-tabulate (b * a) (plane_place a g) k h,
        )
        (small (k / a) (k % a))
    go (no h) = rw (get_or-sets_other z 0 (plane a b g) k 0 (λ i c d. omega (arith, rw length-tabulate at c))) (old k)

-- a packed list depends on the places that it has
pub packed_agree : (turned : Bool) (m count : ℕ) {f g : ℕ → ℕ → ℕ} → ((j : ℕ) → j < count → (i : ℕ) → i < m → f j i ≡ g j i)
    → packed turned m count f ≡ packed turned m count g
unfolding packed planes.turned
packed_agree true m count h = plane_agree count m (λ i c j b. h j b i c)
packed_agree false m count h = plane_agree m count h

-- a packed list that was written
module _ (m count : ℕ) (f : ℕ → ℕ → ℕ) (z : List ℕ) (room : count * m ≤ length z) where
  pub packed-at : (turned : Bool) (j i : ℕ) → j < count → i < m → packed_at turned m count (sets z 0 (packed turned m count f)) j i ≡ f j i
  unfolding packed_at packed planes.turned
  packed-at true j i b c = written_at z count m (planes.turned f) (rw (mul_comm m count) room) i j c b
  packed-at false j i b c = written_at z m count f room j i b c

  pub packed-below : (p : ℕ) → ((j i : ℕ) → f j i < p) → ((k : ℕ) → get_or z k 0 < p) → (turned : Bool) (k : ℕ)
      → get_or (sets z 0 (packed turned m count f)) k 0 < p
  unfolding packed planes.turned
  packed-below p h old true k = rows-below p z old k (planes.turned f) count m (rw (mul_comm m count) room) (λ i j. h j i)
  packed-below p h old false k = rows-below p z old k f m count room h
