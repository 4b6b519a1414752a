-- `blocks::double` meets its contract: the places below t are doubled. Assumes nothing.
use native.Mathlib.Omega.{arith}
use lib.ListN.{length-set}
use Rattle.blocks.specs.Blocks.{changed_next, changed_none}
use mathlib.Core.Path.{◌≡◌, refl}
use Rattle.blocks.proofs.double.Goals as goal

pub loop-t-init : goal.loop-t-init
loop-t-init c = (omega arith, refl, changed_none)

pub loop-t-preserved : goal.loop-t-preserved
loop-t-preserved c =
    let inv = c.loop-t.invariant in
    let added = c.add_to.ensures in (
      omega (arith, c.loop-t-test.true),
      rw (added, length-set) inv.1,
      rw added (changed_next inv.2 (omega (arith, inv.1, c.loop-t-test.true, c.requires)) refl),
    )

pub returns : goal.returns
returns c =
    let inv = c.loop-t.invariant in
    let all : c.loop-t.t ≡ c.args.n = omega (arith, inv.0, c.loop-t-test.false) in
    rw all at inv.2
