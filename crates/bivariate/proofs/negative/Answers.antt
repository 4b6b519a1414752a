-- `bivariate::negative` meets its contract. Assumes nothing.
use native.Mathlib.Omega.{arith}
use Prim.Native.Nat.{◌<◌}
use native.Mathlib.Nat.{mod-lt}
use mathlib.Core.Path.{◌∙◌}
use Rattle.bivariate.specs.Steps.{negative-reduced}
use Rattle.bivariate.proofs.negative.Goals as goal

pub difference-requires : goal.difference-requires
difference-requires c =
    let small : c.reduced.result < c.args.p = rw c.reduced.ensures (mod-lt _ c.requires) in
    (omega arith, omega arith)

pub returns : goal.returns
returns c = c.difference.ensures ∙ rw c.reduced.ensures (negative-reduced _ _)
