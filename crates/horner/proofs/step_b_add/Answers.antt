-- `horner::step_b_add` meets its contract. Assumes nothing.
use lib.ListN.{set}
use mathlib.Core.Path.{ap}
use Rattle.definition.specs.Lists.{coefficient}
use Rattle.horner.proofs.step_b_add.Goals as goal

pub returns : goal.returns
unfolding coefficient
returns c =
    ap (set c.args.w.now c.args.t) c.reduced_sum.ensures
