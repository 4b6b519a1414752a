-- `blocks::clear` meets its contract: the places below t are clear. Assumes nothing.
use borrow.Author.Rules.{rules}
use native.Mathlib.Omega.{arith}
use Rattle.summed_product.specs.Sums.{sums_none}
use Rattle.blocks.specs.Blocks.{changed_next, changed_none}
use mathlib.Core.Path.{refl}
use Rattle.blocks.proofs.clear.Goals as goal

pub loop-t-init : goal.loop-t-init
loop-t-init c = (omega arith, refl, refl, changed_none, changed_none)

pub loop-t-preserved : goal.loop-t-preserved
loop-t-preserved c =
    let inv = c.loop-t.invariant in (
      omega (arith, c.loop-t-test.true),
      search rules,
      search rules,
      changed_next inv.3 (omega (arith, inv.1, c.loop-t-test.true, c.requires.0)) refl,
      changed_next inv.4 (omega (arith, inv.2, c.loop-t-test.true, c.requires.1)) refl,
    )

pub returns : goal.returns
returns c =
    let inv = c.loop-t.invariant in
    sums_none (λ t b. inv.3.done t (omega (arith, c.loop-t-test.false))) (λ t b. inv.4.done t (omega (arith, c.loop-t-test.false)))
