-- What a loop that fills a table leaves alone.
--
--   filling_kept    a segment apart from the table is as it was
--   filling_place   and each of its places
-- Assumes nothing.
use Rattle.std.specs.Prelude.{ℕ, ◌+◌, ◌<◌, List, ◌≡◌}
use Rattle.std.proofs.Math.Path.{sym, ap}
use Rattle.std.proofs.Common.{◌∙◌}
use Rattle.std.proofs.Math.ListN.{get_or}
use Rattle.algebra.specs.Lists.{length-tabulate}
use Rattle.buffer.specs.Filling.{Filling}
use Rattle.definition.specs.Lists.{coefficient, tabulate}
use Rattle.buffer.specs.Segments.{Apart, segment, coefficient-segment, segment-kept}

module _ {f : ℕ → ℕ} {t n : ℕ} {before now : List ℕ} {k : ℕ} (filling : Filling f t n before now k) where
  pub filling_kept : {a m : ℕ} → Apart before a m t n → segment now a m ≡ segment before a m
  filling_kept apart = rw filling.same (segment-kept apart (tabulate k f) (rw length-tabulate filling.few))

  pub filling_place : {a m : ℕ} → Apart before a m t n → (i : ℕ) → i < m → get_or now (a + i) 0 ≡ coefficient (segment before a m) i
  unfolding coefficient
  filling_place {a} {m} apart i below = sym (coefficient-segment now a m i below) ∙ ap (λ l. get_or l i 0) (filling_kept apart)
