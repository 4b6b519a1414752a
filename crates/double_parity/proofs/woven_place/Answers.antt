-- `double_parity::woven_place` meets its contract. Assumes nothing.
use native.Mathlib.Omega.{arith}
use Prim.Native.Nat.{ℕ, ◌<◌, ◌%◌}
use mathlib.Core.Path.{◌≡◌, sym, ◌∙◌}
use Rattle.double_rows.specs.Places.{packed-residue}
use Rattle.double_parity.specs.Weave.{woven_cross, woven-first, woven-next, woven_plane}
use Rattle.double_parity.proofs.woven_place.Goals as goal
use Rattle.double_parity.proofs.woven_place.Goals.{After-packed-e, Else-i-eq1}

below_by : {a b p : ℕ} → a ≡ b → b < p → a < p
below_by e h = rw e h

even-below : (c : After-packed-e) → c.packed-e.result < c.args.p
even-below c = below_by c.packed-e.ensures (packed-residue _ _ _ _ _ _ c.requires.0.evens.below)

is-even : (c : Else-i-eq1) → c.args.i % 2 ≡ 0
is-even c = omega (arith, c.if-i-eq1.false)

pub cross-requires : goal.cross-requires
cross-requires c =
    let thirds = c.requires.0 in (
      below_by c.packed-m.ensures (packed-residue _ _ _ _ _ _ thirds.folds.below),
      even-below (goal.at.cross-requires c).After-packed-e,
      below_by c.packed-o.ensures (packed-residue _ _ _ _ _ _ thirds.odds.below),
    )

pub returns-then-i-eq1 : goal.returns-then-i-eq1
unfolding woven_plane
returns-then-i-eq1 c =
    c.cross.ensures ∙ rw (c.packed-m.ensures, c.packed-o.ensures, c.packed-e.ensures)
    (sym (woven_cross _ _ _ _ _ c.if-i-eq1.true))

pub returns-then-k-eq0 : goal.returns-then-k-eq0
unfolding woven_plane
returns-then-k-eq0 c =
    c.packed-e.ensures ∙ sym (woven-first _ _ _ _ _ (is-even (goal.at.returns-then-k-eq0 c).Else-i-eq1) c.if-k-eq0.true (below_by (sym c.packed-e.ensures) (even-below (goal.at.returns-then-k-eq0 c).After-packed-e)))

pub sum-requires : goal.sum-requires
sum-requires c =
    (even-below (goal.at.sum-requires c).After-packed-e, below_by c.packed.ensures (packed-residue _ _ _ _ _ _ c.requires.0.odds.below))

pub returns : goal.returns
unfolding woven_plane
returns c =
    c.sum.ensures ∙ rw (c.packed-e.ensures, c.packed.ensures)
    (sym (woven-next _ _ _ _ _ (is-even (goal.at.returns c).Else-i-eq1) (omega (arith, c.if-k-eq0.false))))
