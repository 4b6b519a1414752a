-- Steps on rows of one list: each reads the polynomial in some rows and writes another one apart from them.
--
--   Source r a t n w    the rows at a, of r places each, lie apart from the n places from t on
--   row-positive        rows that hold a place are not empty
--   row_inside          a row ends where the rows do, or before
--   filling_row         one row more of the rows of a polynomial is written
--   source_row          that row too lies apart from what is read
--   filling_held        which is as it was
--   negative-reduced    -c modulo p, of a c that is reduced first
--   place_inside held-inside   a coefficient of the polynomial in some rows is a place of the list
-- Assumes nothing.
use Rattle.std.specs.Prelude.{ℕ, zero, suc, ◌+◌, ◌*◌, ◌%◌, ◌<◌, ◌≤◌, ◌≡◌, List, get_or}
use Rattle.std.proofs.Common.{add_assoc, le_refl, mul-le-mul_right, mul-zero, suc-mul, zero-add, add-one, arith, ◌∙◌}
use Rattle.std.proofs.Math.Nat.{mod-mod}
use Rattle.std.proofs.Math.Path.{sym, ap}
use Rattle.std.proofs.Math.ListN.{length}
use Rattle.std.proofs.Math.Arith.{digits_lt}
use Rattle.std.proofs.lemmas.List.Edits.{sets}
use Rattle.std.proofs.Math.Seq.{length-sets}
use Rattle.algebra.specs.Rows.{length-plane, plane_at-inside}
use Rattle.definition.specs.KinoshitaLi.{negative, plane, plane_at, plane_place}
use Rattle.definition.specs.Lists.{coefficient, tabulate}
use Rattle.product.specs.Planes.{held, plane-suc}
use Rattle.buffer.specs.Filling.{Filling}
use Rattle.buffer.specs.Segments.{Apart, segment, apart-length, apart-within, coefficient-segment}
use Rattle.buffer.specs.Written.{sets-append}
use Rattle.product.specs.declared.Rows.{Rows}
use Rattle.route.specs.Filling.{filling_kept}

abbrev pub Source : ℕ → Rows → ℕ → ℕ → List ℕ → Type 0
Source r a t n w = Apart w a.at (a.count * r) t n

pub row-positive : (c k r : ℕ) → k < c * r → 0 < r
row-positive c k zero h = omega (arith, mul-zero c)
row-positive c k (suc r) h = omega arith

module _ (r : ℕ) (w : List ℕ) (a : Rows) {j i : ℕ} (row : j < a.count) (column : i < r) where
  pub place_inside : a.at + a.count * r ≤ length w → a.at + j * r + i < length w
  place_inside fits = omega (arith, digits_lt row column)

  pub held-inside : get_or w (a.at + j * r + i) 0 ≡ held r w a j i
  unfolding coefficient
  held-inside =
      sym (plane_at-inside r (segment w a.at (a.count * r)) j i column
      ∙ coefficient-segment w a.at (a.count * r) (j * r + i) (digits_lt row column)
      ∙ rw add_assoc)

pub filling_held : {f : ℕ → ℕ} {t n : ℕ} {before now : List ℕ} {k : ℕ} → Filling f t n before now k → (r : ℕ) (a : Rows)
    → Source r a t n before → held r now a ≡ held r before a
filling_held filling r a apart = ap (plane_at r) (filling_kept filling apart)

pub row_inside : (r : ℕ) {k n : ℕ} → k < n → k * r + r ≤ n * r
row_inside r {k} below = omega (arith, mul-le-mul_right r below, suc-mul k r)

module _ (r : ℕ) (f : ℕ → ℕ → ℕ) {t n : ℕ} {before now : List ℕ} {k : ℕ} (filling : Filling (plane_place r f) t (n * r) before now (k * r))
    (below : k < n) where
  row_written : sets (sets before t (plane r k f)) (t + k * r) (tabulate r (f k)) ≡ sets before t (plane r (k + 1) f)
  row_written = rw (add-one, plane-suc r k f) (sym (rw length-plane at (sets-append before t (plane r k f) (tabulate r (f k)))))

  pub filling_row : {after : List ℕ} → after ≡ sets now (t + k * r) (tabulate r (f k))
      → Filling (plane_place r f) t (n * r) before after ((k + 1) * r)
  unfolding plane
  filling_row e = record {
    few = rw (add-one, suc-mul) (row_inside r below);
    size = ap length e ∙ length-sets now (t + k * r) (tabulate r (f k)) ∙ filling.size;
    same = e ∙ rw filling.same row_written;
  }

  pub source_row : (q : ℕ) (a : Rows) → Source q a t (n * r) before → Source q a (t + k * r) r now
  source_row q a s = apart-within (apart-length filling.size s) (le_refl _) (le_refl _) (omega arith) (omega (arith, row_inside r below))

pub negative-reduced : (p c : ℕ) → (0 + negative p (c % p)) % p ≡ negative p c
unfolding negative
negative-reduced p c = rw (zero-add, mod-mod, mod-mod)
