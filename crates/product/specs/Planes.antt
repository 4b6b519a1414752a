-- Polynomials in x and y that stand in a list, row by row: row j has the coefficients of y^j.
--
--   held r w a            the polynomial whose rows, of r places each, stand in w at a
--   row-held              row l of it is a part of w
--   held_beyond           rows past the last are zero
--   held_kept             it is as it was after a write apart from it
--   plane-0 plane-suc     a list of rows grows by its last row (`planes/Rows`)
-- Assumes nothing.
use Rattle.std.specs.Prelude.{ℕ, ◌+◌, ◌*◌, ◌<◌, ◌≤◌, ◌≡◌, List, length}
use Rattle.std.proofs.Common.{mul-le-mul_right, suc-mul, arith, ap}
use Rattle.std.proofs.lemmas.List.Edits.{sets}
use Rattle.algebra.specs.Rows.{plane_at-above, plane_at-row}
use Rattle.definition.specs.KinoshitaLi.{plane_at}
use Rattle.definition.specs.Lists.{coefficient}
use Rattle.product.specs.declared.Rows.{Rows}
pub use Rattle.planes.specs.Rows.{plane-0, plane-suc}
use Rattle.buffer.specs.Segments.{segment, Apart, length-segment, segment-kept, segment-segment}

abbrev pub held : ℕ → List ℕ → Rows → ℕ → ℕ → ℕ
held r w a = plane_at r (segment w a.at (a.count * r))

module _ (r : ℕ) (w : List ℕ) (a : Rows) where
  abbrev rows : List ℕ
  rows = segment w a.at (a.count * r)

  pub row-held : (l : ℕ) → l < a.count → coefficient (segment w (a.at + l * r) r) ≡ held r w a l
  row-held l h =
      rw (← segment-segment w a.at (a.count * r) (l * r) r (omega (arith, mul-le-mul_right r h, suc-mul l r)))
      (plane_at-row r rows l)

  pub held_beyond : (l : ℕ) → a.count ≤ l → (i : ℕ) → held r w a l i ≡ 0
  held_beyond l h i = plane_at-above r a.count rows (length-segment w a.at (a.count * r)) l i h

  pub held_kept : {t n : ℕ} → Apart w a.at (a.count * r) t n → (vs : List ℕ) → length vs ≤ n → held r (sets w t vs) a ≡ held r w a
  held_kept apart vs short = ap (plane_at r) (segment-kept apart vs short)
