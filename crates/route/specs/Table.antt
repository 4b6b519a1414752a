-- Tables written into a list.
--
--   written-table      the table that was written
--   constant-written   zeros, with c written at the first of them
-- Assumes nothing.
use Rattle.std.specs.Prelude.{ℕ, zero, suc, ◌+◌, ◌<◌, ◌≤◌, ◌≡◌, refl, List, ◌∷◌, length, set, replicate}
use Rattle.std.proofs.Common.{arith, sym, ap, ◌∙◌, set-set}
use Rattle.std.proofs.lemmas.List.{length-replicate, get_or-replicate}
use Rattle.std.proofs.lemmas.List.Edits.{sets}
use Rattle.algebra.specs.Lists.{length-tabulate, table_of}
use Rattle.buffer.specs.Written.{sets-set}
use Rattle.definition.specs.Lists.{coefficient, tabulate}
use Rattle.definition.specs.Substitution.{constant}
use Rattle.buffer.specs.Segments.{segment}
use Rattle.buffer.specs.Within.{segment-sets}

module _ (w : List ℕ) (t : ℕ) (f : ℕ → ℕ) where
  pub written-table : (n : ℕ) → t + n ≤ length w → segment (sets w t (tabulate n f)) t n ≡ tabulate n f
  written-table n h = segment-sets w t (tabulate n f) n (length-tabulate n f) h

constant-table : (c k : ℕ) → c ∷ replicate k 0 ≡ tabulate (suc k) (constant c)
unfolding coefficient constant
constant-table c k = table_of (suc k) (constant c) (c ∷ replicate k 0) (ap suc (length-replicate k 0)) at
  where
    at : (i : ℕ) → i < suc k → coefficient (c ∷ replicate k 0) i ≡ constant c i
    at zero h = refl
    at (suc i) h = get_or-replicate {A = ℕ} k i 0 0 (omega arith)

pub constant-written : (w : List ℕ) (t n c : ℕ) → 0 < n → set (sets w t (replicate n 0)) t c ≡ sets w t (tabulate n (constant c))
constant-written w t zero c h = absurd (omega arith)
constant-written w t (suc k) c h =
    rw (← constant-table c k)
    (sym (sets-set (set w t 0) t (suc t) c (replicate k 0) (omega arith)) ∙ ap (λ l. sets l (suc t) (replicate k 0)) (set-set w t 0 c))
