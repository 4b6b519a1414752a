-- A level of route 4 on one list: what it ensures. Assumes nothing.
--
--   level_done   from what they ensure, what the level ensures
use Prim.Native.Nat.{ℕ, suc, ◌+◌, ◌-◌}
use mathlib.Core.List.{List, ◌++◌}
use Rattle.std.specs.Prelude.{◌≡◌, length, take, drop}
use Rattle.buffer.specs.Segments.{segment}
use Rattle.buffer.specs.Within.{rest_back, rest-lent}
use Rattle.levels.specs.Graeffe.{Expanded, Graeffe}
use Rattle.levels.specs.Layout.{layout_of}
use Rattle.levels.specs.declared.Layout.{Layout}
use Rattle.levels.specs.Level.{LevelLent, Levelled, done}

module _ {p levels K r q d : ℕ} {f w : List ℕ} {s : Layout} (lent : LevelLent p levels r q d f w) (deeper : levels ≡ suc K)
    (placed : s ≡ layout_of r q d (length f)) where
  module _ {v rest : List ℕ} {s₁ s₂ : ℕ} (down : Graeffe p r s w v s₁)
      (below : Levelled p K s.half s.next s.low f (segment v s.rest (length v - s.rest)) rest s₂) where
    -- the list when the rest has come back
    abbrev back : List ℕ
    back = take s.rest v ++ (rest ++ drop (length v - s.rest) (drop s.rest v))

    pub level_done : {z : List ℕ} {s₃ : ℕ} → Expanded p r s back z s₃ → Levelled p levels r q d f w z (s₁ + s₂ + s₃)
    level_done up = done lent deeper (rw placed at down) (rw (rest-lent, placed) at below) (rw (rest_back, placed) at up)
