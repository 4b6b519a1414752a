-- `levels::level` meets its contract. The measure is the number of levels. Assumes nothing.
use Prim.Native.Nat.{ℕ, suc, ◌+◌, ◌-◌, ◌≤◌}
use native.Mathlib.Omega.{arith}
use lib.ListN.{length}
use mathlib.Core.Path.{◌≡◌}
use Rattle.levels.specs.Graeffe.{Parts}
use Rattle.levels.proofs.LevelDone.{level_done}
use Rattle.levels.specs.Level.{Levelled, order-1, level_again, level_bounded, level_next, level_parts}
use Rattle.levels.proofs.+level.Goals as goal
use Rattle.levels.proofs.+level.Goals.{After-arrange-s, After-expand-up, Else-levels-eq0}

-- a level that is not the last

deeper : {t : ℕ} → (c : Else-levels-eq0 t) → c.args.levels ≡ suc (c.args.levels - 1)
deeper c = omega arith

parts : {t : ℕ} → (c : After-arrange-s t) → Parts c.args.p c.args.r c.arrange-s.result c.args.w.now
parts c =
    let deep : c.args.levels ≡ suc (c.args.levels - 1) = omega arith in
    level_parts c.requires deep c.arrange-s.ensures

room : {t : ℕ} → (c : After-arrange-s t) → c.arrange-s.result.rest ≤ length c.args.w.now
room c = omega (arith, (parts c))

done : {t : ℕ} → (c : After-expand-up t) → Levelled c.args.p c.args.levels c.args.r c.args.q c.args.d c.args.f.now c.args.w.now c.expand-up.new.w
    (c.graeffe-down.result.places + c.level-below.result.places + c.expand-up.result.places)
done c =
    let deep : c.args.levels ≡ suc (c.args.levels - 1) = omega arith in
    level_done c.requires deep c.arrange-s.ensures c.graeffe-down.ensures
    c.level-below.ensures c.expand-up.ensures

pub last-requires : goal.last-requires
last-requires t c =
    let lent = c.requires in
    rw (c.if-levels-eq0.true, order-1 lent c.if-levels-eq0.true) at lent

pub returns-then-levels-eq0 : goal.returns-then-levels-eq0
returns-then-levels-eq0 t c =
    rw (c.none.ensures, c.if-levels-eq0.true, order-1 c.requires c.if-levels-eq0.true) c.last.ensures

pub arrange-s-requires : goal.arrange-s-requires
arrange-s-requires t c = level_bounded c.requires (deeper c) (omega arith)

pub graeffe-down-requires : goal.graeffe-down-requires
graeffe-down-requires t c = parts (goal.at.graeffe-down-requires t c).After-arrange-s

pub overflow_sub-levels : goal.overflow_sub-levels
overflow_sub-levels t c = omega arith

pub offset_bounds-w-rest : goal.offset_bounds-w-rest
offset_bounds-w-rest t c = omega (arith, room (goal.at.offset_bounds-w-rest t c).After-arrange-s)

pub slice_bounds-level-count : goal.slice_bounds-level-count
slice_bounds-level-count t c = omega (arith, room (goal.at.slice_bounds-level-count t c).After-arrange-s)

pub slice_bounds-level-start : goal.slice_bounds-level-start
slice_bounds-level-start t c = omega (arith, room (goal.at.slice_bounds-level-start t c).After-arrange-s)

pub level-below-requires : goal.level-below-requires
level-below-requires t c = (
  omega arith,
  level_next c.requires (deeper (goal.at.level-below-requires t c).Else-levels-eq0) c.arrange-s.ensures c.graeffe-down.new.w
      c.graeffe-down.ensures.within.size,
)

pub expand-up-requires : goal.expand-up-requires
expand-up-requires t c =
    level_again c.requires (deeper (goal.at.expand-up-requires t c).Else-levels-eq0) c.arrange-s.ensures c.graeffe-down.ensures
    c.level-below.ensures

pub plus-requires : goal.plus-requires
plus-requires t c = omega (arith, done (goal.at.plus-requires t c).After-expand-up)

pub plus-requires-2 : goal.plus-requires-2
plus-requires-2 t c = omega (arith, done (goal.at.plus-requires-2 t c).After-expand-up)

pub returns : goal.returns
returns t c = rw (c.plus-2.ensures, c.plus.ensures) (done (goal.at.returns t c).After-expand-up)
