-- `bernstein::constant` meets its contract. Assumes nothing.
use native.Mathlib.Nat.{add-sub_cancel_left}
use native.Mathlib.Omega.{arith}
use Prim.Native.Nat.{◌≤◌}
use mathlib.Core.Path.{◌≡◌, ◌∙◌}
use lib.ListN.{length}
use Rattle.algebra.specs.Composition.{composed-constant}
use Rattle.definition.specs.Lists.{coefficient}
use Rattle.buffer.specs.Segments.{segment, length-segment}
use Rattle.bernstein.proofs.constant.Goals as goal

pub returns : goal.returns
returns c =
    let f = segment c.args.w.now c.args.n c.args.m in
    let short : length f ≤ 1 = omega (arith, length-segment c.args.w.now c.args.n c.args.m) in
    let first : c.place-c.result ≡ coefficient f 0 = rw add-sub_cancel_left at c.place-c.ensures in
    c.put_constant.ensures ∙ rw (← composed-constant c.args.p c.args.n f _ short, first)
