-- The three products, woven.
--
--   Third Thirds           one of the three, and all, in lists of blocks, residues modulo p
--   woven_plane             the polynomial that is woven from them
--   woven_cross woven-first woven-next   its places at odd powers of x, at x^0 and at other even ones
--   woven_agree            it depends on places of the three that are there
--   row_needs row_fits row-woven   a row of it: what `parity::weave` requires, and that it leaves the row
--   column f i             a column of a polynomial
--   blocks t               the blocks of the results
--   block-turned block_straight   block l is a column, or a row
--   woven-packed           the blocks one after the other hold the polynomial
--   block-next             one block more has been written
--   block-fits             each fits where the results do
-- Assumes nothing.
use Prim.Native.Nat.{ℕ, zero, suc, ◌+◌, ◌-◌, ◌*◌, ◌/◌, ◌%◌, ◌<◌, ◌≤◌, ◌^◌}
use Rattle.std.proofs.Common.{add-zero, mod-eq_of_lt, mul_comm, eq-eqb, ne_eqb, sym, ap, ◌∙◌}
use native.Mathlib.Omega.{arith}
use Rattle.std.specs.Prelude.{Bool, false, true, List, ◌≡◌, refl, length, get_or}
use Rattle.std.proofs.lemmas.List.Edits.{sets}
use Rattle.blocks.specs.declared.Blocks.{Blocks}
use Rattle.definition.specs.KinoshitaLi.{negative, plane}
use Rattle.definition.specs.Lists.{coefficient, tabulate}
use Rattle.double_rows.specs.Places.{packed_at}
use Rattle.grids.specs.Parts.{facing, packed, results_of}
use Rattle.parity.specs.Weave.{Woven, delayed, woven, woven-even, woven-odd, woven_at}
use Rattle.double_parity.specs.Halves.{upper}
use Rattle.double_parity.specs.Packed.{rows_fit, rows_next}
use Rattle.double_parity.specs.declared.Results.{Results}

pub record Third (p m count : ℕ) (l : List ℕ) : Type 0 where
  pub room : count * m ≤ length l
  pub below : (k : ℕ) → get_or l k 0 < p

pub record Thirds (p : ℕ) (t : Results) (even odd sums : List ℕ) : Type 0 where
  pub modulus : 0 < p
  pub few : t.rows * t.places < 2 ^ 64
  pub evens : Third p (upper t.places) t.rows even
  pub odds : Third p (t.places / 2) t.rows odd
  pub folds : Third p (t.places / 2) t.rows sums

unfoldable pub woven_plane : ℕ → Results → List ℕ → List ℕ → List ℕ → ℕ → ℕ → ℕ
woven_plane p t even odd sums j =
    woven_at p (packed_at t.turned (upper t.places) t.rows even j) (packed_at t.turned (t.places / 2) t.rows odd j)
    (packed_at t.turned (t.places / 2) t.rows sums j)

-- a place of it, with an odd and with an even power of x
module _ (p : ℕ) (e o m : ℕ → ℕ) (i : ℕ) where
  pub woven_cross : i % 2 ≡ 1 → woven_at p e o m i ≡ ((m (i / 2) + negative p (e (i / 2))) % p + negative p (o (i / 2))) % p
  unfolding woven_at
  woven_cross r = rw (ne_eqb (i % 2) 0 (λ z. omega arith))

  pub woven-first : i % 2 ≡ 0 → i / 2 ≡ 0 → e (i / 2) < p → woven_at p e o m i ≡ e (i / 2)
  unfolding woven_at delayed
  woven-first r z small = rw (eq-eqb (i % 2) 0 r, z, add-zero) (mod-eq_of_lt (rw z at small))

  pub woven-next : i % 2 ≡ 0 → 0 < i / 2 → woven_at p e o m i ≡ (e (i / 2) + o (i / 2 - 1)) % p
  unfolding woven_at delayed
  woven-next r h = rw (eq-eqb (i % 2) 0 r, later (i / 2) h)
    where
      later : (k : ℕ) → 0 < k → delayed o k ≡ o (k - 1)
      later zero b = absurd (omega arith)
      later (suc k) b = let same : suc k - 1 ≡ k = omega arith in rw same

-- it depends on places of the three that are there
module _ (p n : ℕ) {e o m e' o' m' : ℕ → ℕ} (evens : (k : ℕ) → k < upper n → e k ≡ e' k) (odds : (k : ℕ) → k < n / 2 → o k ≡ o' k)
    (folds : (k : ℕ) → k < n / 2 → m k ≡ m' k) where
  even_agree : (k : ℕ) → 2 * k < n → (e k + delayed o k) % p ≡ (e' k + delayed o' k) % p
  unfolding delayed
  even_agree zero h = rw (evens 0 (omega arith))
  even_agree (suc k) h = rw (evens (suc k) (omega arith), odds k (omega arith))

  pub woven_agree : (i : ℕ) → i < n → woven_at p e o m i ≡ woven_at p e' o' m' i
  woven_agree i h = go (i % 2) refl
    where
      go : (r : ℕ) → i % 2 ≡ r → woven_at p e o m i ≡ woven_at p e' o' m' i
      go zero r =
          let same : i ≡ 2 * (i / 2) = omega arith in
          rw (same, woven-even, woven-even) (even_agree (i / 2) (omega arith))
      go (suc k) r =
          let same : i ≡ 2 * (i / 2) + 1 = omega arith in
          rw (same, woven-odd, woven-odd, evens (i / 2) (omega arith), odds (i / 2) (omega arith), folds (i / 2) (omega arith))

-- a row, where the blocks are rows
module _ {p : ℕ} {t : Results} {even odd sums : List ℕ} (thirds : Thirds p t even odd sums) (straight : t.turned ≡ false) {j : ℕ} (inside : j < t.rows) where
  abbrev half : ℕ
  half = t.places / 2

  even-fits : j * upper t.places + upper t.places ≤ length even
  even-fits = rows_fit (upper t.places) t.rows j thirds.evens.room inside

  half-fits : {l : List ℕ} → Third p half t.rows l → j * half + half ≤ length l
  half-fits third = rows_fit half t.rows j third.room inside

  pub row_needs : {z : List ℕ} {at : ℕ} → at + t.places ≤ length z
      → Woven p t.places even (j * upper t.places) odd (j * half) sums (j * half) z at
  unfolding coefficient
  row_needs room = record {
    modulus = thirds.modulus;
    evens = even-fits;
    odds = half-fits thirds.odds;
    folds = half-fits thirds.folds;
    target = room;
    even-small = λ k h. thirds.evens.below _;
    odd-small = λ k h. thirds.odds.below _;
    fold_small = λ k h. thirds.folds.below _;
  }

  pub row_fits : (j * upper t.places ≤ length even) × (j * half ≤ length odd)
  row_fits = (omega (arith, even-fits), omega (arith, half-fits thirds.odds))

  pub row-woven : woven_plane p t even odd sums j ≡ woven p even (j * upper t.places) odd (j * half) sums (j * half)
  unfolding woven_plane packed_at
  row-woven = rw straight

-- a column of a polynomial in rows
abbrev pub column : (ℕ → ℕ → ℕ) → ℕ → ℕ → ℕ
column f i j = f j i

abbrev pub blocks : Results → Blocks
blocks t = results_of t.turned t.places t.rows

-- block l is a column, or a row
module _ (t : Results) {l : ℕ} (below : l < (blocks t).count) where
  pub block-turned : t.turned ≡ true → (l < t.places) × ((blocks t).length ≡ t.rows)
  unfolding results_of
  block-turned e = (rw e at below, rw e)

  pub block_straight : t.turned ≡ false → (l < t.rows) × ((blocks t).length ≡ t.places)
  unfolding results_of
  block_straight e = (rw e at below, rw e)

-- the blocks, one after the other
pub woven-packed : (t : Results) (W : ℕ → ℕ → ℕ) → plane (blocks t).length (blocks t).count (facing t.turned W) ≡ packed t.turned t.places t.rows W
unfolding results_of packed
woven-packed t W = go t.turned
  where
    go : (o : Bool) → plane (results_of o t.places t.rows).length (results_of o t.places t.rows).count (facing o W) ≡ packed o t.places t.rows W
    go true = refl
    go false = refl

blocks-room : (t : Results) (n : ℕ) → t.rows * t.places ≤ n → (blocks t).count * (blocks t).length ≤ n
unfolding results_of
blocks-room t n = go t.turned
  where
    go : (o : Bool) → t.rows * t.places ≤ n → (results_of o t.places t.rows).count * (results_of o t.places t.rows).length ≤ n
    go true h = rw (mul_comm t.places t.rows) h
    go false h = h

pub block-fits : (t : Results) {n : ℕ} → t.rows * t.places ≤ n → {b : Blocks} → b ≡ blocks t → {l : ℕ} → l < b.count → l * b.length + b.length ≤ n
block-fits t {n} h {b} e {l} below = rows_fit b.length b.count l (rw e (blocks-room t n h)) below

-- one block more has been written
pub block-next : (t : Results) (W : ℕ → ℕ → ℕ) {b : Blocks} → b ≡ blocks t → {z z' : List ℕ} (z₀ : List ℕ) (l : ℕ)
    → z ≡ sets z₀ 0 (plane b.length l (facing t.turned W)) → z' ≡ sets z (l * b.length) (tabulate (blocks t).length (facing t.turned W l))
    → z' ≡ sets z₀ 0 (plane b.length (l + 1) (facing t.turned W))
block-next t W {b} e {z} z₀ l h f =
    rows_next z₀ b.length l (facing t.turned W) h
    (f ∙ ap (λ n. sets z (l * b.length) (tabulate n (facing t.turned W l))) (ap (λ c. c.length) (sym e)))
