-- `double_rows::opposite_place` meets its contract. Assumes nothing.
use native.Mathlib.Omega.{arith}
use Prim.Native.Nat.{◌<◌}
use borrow.Author.Tests.{eq-eqb, ne_eqb}
use Rattle.double_rows.specs.Places.{opposite_place, packed-residue}
use mathlib.Core.Path.{sym, ◌∙◌}
use Rattle.double_rows.proofs.opposite_place.Goals as goal

pub returns-then-i-eq1 : goal.returns-then-i-eq1
unfolding opposite_place
returns-then-i-eq1 c = sym (rw (eq-eqb _ 1 c.if-i-eq1.true))

pub returns-then-k-eq0 : goal.returns-then-k-eq0
unfolding opposite_place
returns-then-k-eq0 c =
    c.packed-e.ensures ∙ sym (rw (ne_eqb _ 1 c.if-i-eq1.false, eq-eqb _ 0 c.if-k-eq0.true))

pub difference-requires : goal.difference-requires
difference-requires c =
    let even : c.packed-e.result < c.args.p =
    rw c.packed-e.ensures (packed-residue _ _ _ _ _ _ c.requires.0.even-below) in
    let odd : c.packed.result < c.args.p = rw c.packed.ensures (packed-residue _ _ _ _ _ _ c.requires.0.odd-below) in
    (omega arith, omega arith)

pub returns : goal.returns
unfolding opposite_place
returns c =
    c.difference.ensures ∙ rw (c.packed-e.ensures, c.packed.ensures) (sym (rw (ne_eqb _ 1 c.if-i-eq1.false, ne_eqb _ 0 c.if-k-eq0.false)))
