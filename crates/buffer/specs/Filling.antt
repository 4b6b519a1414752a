-- A loop that writes a table into a list, place by place.
--
--   Filling f t n before now k   the first k of the n places of the table of f are written from place t on
--   filling_first filling_next filling_last   before the first turn, after one more, and after the last
--   filling_after   a place that is still to be written, or stands after the table, is as it was: place i of the segment from s on
-- Assumes nothing.
use Rattle.std.specs.Prelude.{ℕ, ◌+◌, ◌<◌, ◌≤◌, List, ◌≡◌, refl, length, get_or, set}
use Rattle.std.proofs.Common.{add-one, arith, ◌∙◌, length-set}
use Rattle.std.proofs.lemmas.List.Edits.{sets}
use Rattle.algebra.specs.Lists.{length-tabulate}
use Rattle.buffer.specs.Written.{get_or-sets-after, sets_snoc}
use Rattle.buffer.specs.Segments.{coefficient-segment, segment}
use Rattle.definition.specs.Lists.{coefficient, tabulate}

pub record Filling (f : ℕ → ℕ) (t n : ℕ) (before now : List ℕ) (k : ℕ) : Type 0 where
  pub few : k ≤ n
  pub size : length now ≡ length before
  pub same : now ≡ sets before t (tabulate k f)

pub filling_first : (f : ℕ → ℕ) (t n : ℕ) (w : List ℕ) → Filling f t n w w 0
unfolding tabulate
filling_first f t n w = record { few = omega arith; size = refl; same = refl }

-- one place more of a table
next : (w : List ℕ) (t : ℕ) (f : ℕ → ℕ) (k : ℕ) → set (sets w t (tabulate k f)) (t + k) (f k) ≡ sets w t (tabulate (k + 1) f)
unfolding tabulate
next w t f k = rw add-one (rw length-tabulate at (sets_snoc w t (tabulate k f) (f k)))

module _ {f : ℕ → ℕ} {t n : ℕ} {before now : List ℕ} {k : ℕ} (filling : Filling f t n before now k) where
  pub filling_next : {v : ℕ} → k < n → v ≡ f k → Filling f t n before (set now (t + k) v) (k + 1)
  filling_next {v} below value = record {
    few = omega arith;
    size = length-set now (t + k) v ∙ filling.size;
    same = rw (value, filling.same) (next before t f k);
  }

  pub filling_last : n ≤ k → now ≡ sets before t (tabulate n f)
  filling_last past =
      let all : k ≡ n = omega (arith, filling.few) in
      filling.same ∙ rw all

  pub filling_after : (s m i : ℕ) → t + k ≤ s + i → i < m → get_or now (s + i) 0 ≡ coefficient (segment before s m) i
  unfolding coefficient
  filling_after s m i past inside =
      rw (filling.same, coefficient-segment before s m i inside) (get_or-sets-after before t (tabulate k f) (s + i) 0 (rw length-tabulate past))
