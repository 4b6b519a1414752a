-- A place of a product in two variables from those of its parts, which stand in blocks.
--
--   packed_at turned m count l j i   the coefficient of y^j x^i in blocks of m places of each of so many rows
--   Packed m count j i     it lies among them, and few they are
--   packed-row packed-column   so its place is inside
--   packed-residue         where all of them are residues, it is one
--   Halves                 residues, the parts of a product in x^2 by even and odd powers
--   opposite_place          a place of a(x, y) a(-x, y)
--   spread_place            a place of a(x^2, y) b(x, y)
--   place_of Putting        of either, and what writing it requires
-- Assumes nothing.
use Rattle.std.specs.Prelude.{ℕ, ◌+◌, ◌-◌, ◌*◌, ◌/◌, ◌%◌, ◌<◌, ◌≤◌, ◌^◌, Bool, cond, false, true, List, ◌≡◌, eqb, length, get_or}
use Rattle.std.proofs.Common.{mul_comm, mul-le-mul_right, suc-mul, arith}
use Rattle.definition.specs.KinoshitaLi.{negative}
use Rattle.definition.specs.Lists.{coefficient}

unfoldable pub packed_at : Bool → ℕ → ℕ → List ℕ → ℕ → ℕ → ℕ
packed_at turned m count l j i = cond turned (coefficient l (i * count + j)) (coefficient l (j * m + i))

pub record Packed (m count j i : ℕ) : Type 0 where
  pub row : j < count
  pub place : i < m
  pub few : count * m < 2 ^ 64

module _ {m count j i : ℕ} (packed : Packed m count j i) where
  inside : (a b k l : ℕ) → k < a → l < b → k * b + l < a * b
  inside a b k l h g = omega (arith, mul-le-mul_right b h, suc-mul k b)

  pub packed-row : j * m + i < count * m
  packed-row = inside count m j i packed.row packed.place

  pub packed-column : i * count + j < count * m
  packed-column = rw (mul_comm count m) (inside m count i j packed.place packed.row)

pub record Halves (p half rest count : ℕ) (even odd : List ℕ) : Type 0 where
  pub even-room : count * half ≤ length even
  pub odd-room : count * rest ≤ length odd
  pub even-below : (k : ℕ) → get_or even k 0 < p
  pub odd-below : (k : ℕ) → get_or odd k 0 < p

unfoldable pub opposite_place : ℕ → Bool → ℕ → ℕ → List ℕ → List ℕ → ℕ → ℕ → ℕ
opposite_place p turned half count even odd j i =
    cond (eqb (i % 2) 1) 0
    (cond (eqb (i / 2) 0) (packed_at turned half count even j (i / 2))
    ((packed_at turned half count even j (i / 2) + negative p (packed_at turned (half - 1) count odd j (i / 2 - 1))) % p))

unfoldable pub spread_place : Bool → ℕ → ℕ → ℕ → List ℕ → List ℕ → ℕ → ℕ → ℕ
spread_place turned half rest count even odd j i =
    cond (eqb (i % 2) 1) (packed_at turned rest count odd j (i / 2)) (packed_at turned half count even j (i / 2))

pub packed-residue : {p : ℕ} (turned : Bool) (m count : ℕ) (l : List ℕ) (j i : ℕ) → ((k : ℕ) → get_or l k 0 < p) → packed_at turned m count l j i < p
unfolding packed_at coefficient
packed-residue true m count l j i h = h (i * count + j)
packed-residue false m count l j i h = h (j * m + i)

unfoldable pub place_of : ℕ → Bool → Bool → ℕ → ℕ → ℕ → List ℕ → List ℕ → ℕ → ℕ → ℕ
place_of p opposite turned half rest count even odd j i =
    cond opposite (opposite_place p turned half count even odd j i) (spread_place turned half rest count even odd j i)

pub record Putting (p : ℕ) (opposite : Bool) (r half rest count : ℕ) (even odd : List ℕ) : Type 0 where
  pub halves : Halves p half rest count even odd
  pub few : count * half < 2 ^ 64
  pub shorter : rest ≤ half
  pub near : half ≤ rest + 1
  pub square : opposite ≡ true → (rest ≡ half - 1) × (r ≤ half + half)
  pub whole : opposite ≡ false → half + rest ≡ r

pub halves-square : {p : ℕ} {opposite : Bool} {r half rest count : ℕ} {even odd : List ℕ} → Putting p opposite r half rest count even odd
    → opposite ≡ true → Halves p half (half - 1) count even odd
halves-square o e = rw (← (o.square e).0) o.halves
