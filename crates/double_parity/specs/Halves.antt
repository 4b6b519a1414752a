-- The halves of a part: the even and the odd powers of x, and the sum of the two.
--
--   folded p a                  the sum of the even and the odd part modulo p: neighbouring powers of x are added
--   upper n                     n / 2 rounded up
--   even_half odd_half            the two parts, with every second place
--   folded_part                  the part that holds their sum
--   upper_half lower_half         the results at even and at odd powers of x
--   even-half odd-half folded-half   the polynomials that the three parts hold
--   lies-even lies-odd lies-folded   they lie in the lists that they are read from
-- Assumes nothing.
use Rattle.std.specs.Prelude.{ℕ, ◌+◌, ◌-◌, ◌*◌, ◌/◌, ◌%◌, ◌<◌, ◌≤◌, ◌^◌, List, ◌≡◌, ltb, length}
use Rattle.std.proofs.Math.Decide.{dec_lt}
use Rattle.std.proofs.Math.Nat.{add-zero, zero-mod}
use Rattle.std.proofs.Common.{mul-le-mul_right, suc-mul, arith, sym}
use borrow.Author.Tests.{le-ltb, lt-ltb}
use Rattle.std.proofs.Math.Bool.{cond}
use Rattle.std.proofs.Math.Path.{refl, fun_ext}
use Rattle.std.proofs.lemmas.List.Edits.{sets}
use Rattle.std.proofs.Math.Seq.{length-sets}
use Rattle.definition.specs.KinoshitaLi.{even_part, plane}
use Rattle.definition.specs.Lists.{coefficient}
use Rattle.grids.specs.Parts.{Lies, grid_at}
use Rattle.grids.specs.declared.Grid.{Grid}
use Rattle.planes.specs.Parity.{odd_part}
use Rattle.double_parity.specs.Packed.{written_at}
use Rattle.double_parity.specs.declared.Results.{Results}

unfoldable pub folded : ℕ → (ℕ → ℕ → ℕ) → ℕ → ℕ → ℕ
folded p a j i = (a j (2 * i) + a j (2 * i + 1)) % p

abbrev pub upper : ℕ → ℕ
upper n = n - n / 2

abbrev pub even_half : Grid → Grid
even_half g = record { at = g.at; outer = g.outer; inner = 2 * g.inner; count = g.count; length = upper g.length }

abbrev pub odd_half : Grid → Grid
odd_half g = record { at = g.at + g.inner; outer = g.outer; inner = 2 * g.inner; count = g.count; length = g.length / 2 }

abbrev pub folded_part : Grid → Grid
folded_part g = record { at = 0; outer = upper g.length; inner = 1; count = g.count; length = upper g.length }

abbrev pub upper_half : Results → Results
upper_half t = record { turned = t.turned; low = t.low; rows = t.rows; places = upper t.places }

abbrev pub lower_half : Results → Results
lower_half t = record { turned = t.turned; low = t.low; rows = t.rows; places = t.places / 2 }

-- a place of a part
module _ (g : Grid) (w : List ℕ) (j i : ℕ) where
  pub grid_inside : j < g.count → i < g.length → grid_at g w j i ≡ coefficient w (g.at + j * g.outer + i * g.inner)
  unfolding grid_at
  grid_inside b c = rw (lt-ltb j g.count b, lt-ltb i g.length c)

  pub grid_right : g.length ≤ i → grid_at g w j i ≡ 0
  unfolding grid_at
  grid_right c = go (dec_lt j g.count)
    where
      go : Dec (j < g.count) → cond (ltb j g.count) (cond (ltb i g.length) (coefficient w (g.at + j * g.outer + i * g.inner)) 0) 0 ≡ 0
      go (yes b) = rw (lt-ltb j g.count b, le-ltb i g.length c)
      go (no b) = rw (le-ltb j g.count (omega arith))

  pub grid_above : g.count ≤ j → grid_at g w j i ≡ 0
  unfolding grid_at
  grid_above b = rw (le-ltb j g.count b)

module _ (p : ℕ) (g : Grid) (w : List ℕ) where
  folded-zero : (j i : ℕ) → grid_at g w j (2 * i) ≡ 0 → grid_at g w j (2 * i + 1) ≡ 0 → folded p (grid_at g w) j i ≡ 0
  unfolding folded
  folded-zero j i e f = rw (e, f, zero-mod)

-- a part with every second place, from place c on
module _ (g h : Grid) (w : List ℕ) (c : ℕ) (rows : h.count ≡ g.count) (few : (i : ℕ) → i < h.length → 2 * i + c < g.length)
    (all : (i : ℕ) → h.length ≤ i → g.length ≤ 2 * i + c)
    (same : (j i : ℕ) → h.at + j * h.outer + i * h.inner ≡ g.at + j * g.outer + (2 * i + c) * g.inner) where
  second : (j i : ℕ) → grid_at h w j i ≡ grid_at g w j (2 * i + c)
  second j i = go (dec_lt j h.count) (dec_lt i h.length)
    where
      go : Dec (j < h.count) → Dec (i < h.length) → grid_at h w j i ≡ grid_at g w j (2 * i + c)
      go (yes b) (yes d) =
          rw (grid_inside h w j i b d, grid_inside g w j (2 * i + c) (omega arith) (few i d), same j i)
      go (yes b) (no d) = rw (grid_right h w j i (omega arith), grid_right g w j (2 * i + c) (all i (omega arith)))
      go (no b) d = rw (grid_above h w j i (omega arith), grid_above g w j (2 * i + c) (omega arith))

module _ (g : Grid) (w : List ℕ) where
  pub even-half : grid_at (even_half g) w ≡ even_part (grid_at g w)
  unfolding even_part
  even-half = fun_ext λ j. fun_ext λ i.
      rw add-zero at (second g (even_half g) w 0 refl (λ k b. omega arith) (λ k b. omega arith) (λ l k. omega arith) j i)

  pub odd-half : grid_at (odd_half g) w ≡ odd_part (grid_at g w)
  unfolding odd_part
  odd-half = fun_ext λ j. fun_ext λ i.
      second g (odd_half g) w 1 refl (λ k b. omega arith) (λ k b. omega arith) (λ l k. omega arith) j i

  -- the sum of the two
  module _ {p : ℕ} (l : 0 < p) (s : List ℕ) {s' : List ℕ} (room : g.count * upper g.length ≤ length s)
      (e : s' ≡ sets s 0 (plane (upper g.length) g.count (folded p (grid_at g w)))) where
    at : (j i : ℕ) → Dec (j < g.count) → Dec (i < upper g.length) → grid_at (folded_part g) s' j i ≡ folded p (grid_at g w) j i
    at j i (yes b) (yes c) =
        let same : 0 + j * upper g.length + i * 1 ≡ j * upper g.length + i = omega arith in
        rw (grid_inside (folded_part g) s' j i b c, same, e) (written_at s (upper g.length) g.count (folded p (grid_at g w)) room j i b c)
    at j i (yes b) (no c) = rw (grid_right (folded_part g) s' j i (omega arith)) (sym (folded-zero p g w j i
        (grid_right g w j (2 * i) (omega arith)) (grid_right g w j (2 * i + 1) (omega arith))))
    at j i (no b) c = rw (grid_above (folded_part g) s' j i (omega arith)) (sym (folded-zero p g w j i
        (grid_above g w j (2 * i) (omega arith)) (grid_above g w j (2 * i + 1) (omega arith))))

    pub folded-half : grid_at (folded_part g) s' ≡ folded p (grid_at g w)
    folded-half = fun_ext λ j. fun_ext λ i. at j i (dec_lt j g.count) (dec_lt i (upper g.length))

    pub lies-folded : g.length ≤ 2 ^ 32 → length s < 2 ^ 64 → Lies (folded_part g) s'
    lies-folded few small = record {
      columns = λ i b. omega arith;
      lines = λ j b. omega (arith, mul-le-mul_right (upper g.length) b, suc-mul j (upper g.length));
      inside = λ j i b c. rw (e, length-sets) (omega (arith, mul-le-mul_right (upper g.length) b, suc-mul j (upper g.length)));
    }

module _ {g : Grid} {w : List ℕ} (lies : Lies g w) where
  pub lies-even : Lies (even_half g) w
  lies-even = record {
    columns = λ i b. omega (arith, lies.columns (2 * i) (omega arith));
    lines = lies.lines;
    inside = λ j i b c. omega (arith, lies.inside j (2 * i) b (omega arith));
  }

  pub lies-odd : 2 ≤ g.length → length w < 2 ^ 64 → Lies (odd_half g) w
  lies-odd long small = record {
    columns = λ i b. omega (arith, lies.columns (2 * i + 1) (omega arith));
    lines = λ j b. omega (arith, lies.inside j 1 b (omega arith));
    inside = λ j i b c. omega (arith, lies.inside j (2 * i + 1) b (omega arith));
  }
