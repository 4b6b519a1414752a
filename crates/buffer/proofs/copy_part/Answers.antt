-- `buffer::copy_part` meets its contract: after i turns the first i places are written, and none that is still to be read.
-- Assumes nothing.
use borrow.Author.Rules.{rules}
use native.Mathlib.Omega.{arith}
use Prim.Native.Nat.{ℕ, ◌+◌, ◌<◌, ◌≤◌}
use mathlib.Core.Logic.{◌⊎◌, ◌≢◌, inl, inr, ⊎_elim}
use mathlib.Core.Path.{◌≡◌}
use mathlib.Core.List.{List}
use lib.ListN.{length, get_or, take, drop, set, length-drop}
use lib.Seq.{sets, length-take-le, get_or-drop}
use Rattle.buffer.specs.Written.{sets-take, get_or-sets_other}
use Rattle.buffer.proofs.copy_part.Goals as goal

-- a turn: place from + i is still as it was, since the places written lie below it, or above all that are read

module _ (w : List ℕ) (from to i : ℕ) (clear : (to ≤ from) ⊎ (from + i < to)) (inside : from + i < length w) where
  abbrev part : List ℕ
  part = take i (drop from w)

  moved : set (sets w to part) (to + i) (get_or (sets w to part) (from + i) 0) ≡ sets w to (take (i + 1) (drop from w))
  moved =
      let room : i < length (drop from w) = rw length-drop (omega arith) in
      let size : length part ≡ i = length-take-le i (drop from w) (omega arith) in
      rw (get_or-sets_other w to part (from + i) 0 (λ j below. apart clear (omega arith)), ← get_or-drop) (sets-take w to (drop from w) i 0 room)
    where
      apart : {j : ℕ} → (to ≤ from) ⊎ (from + i < to) → j < i → from + i ≢ to + j
      apart (inl down) below e = omega arith
      apart (inr up) below e = omega arith

pub loop-i-preserved : goal.loop-i-preserved
loop-i-preserved c =
    let inside : c.args.from + c.loop-i.i < length c.args.w.now = omega arith in
    (search rules, search rules, rw c.loop-i.invariant.2 (moved _ _ _ c.loop-i.i (⊎_elim inl (λ up. inr (omega arith)) c.requires.order) inside))

pub returns : goal.returns
returns c =
    let all : c.loop-i.i ≡ c.args.count = omega arith in
    rw (← all) c.loop-i.invariant.2
