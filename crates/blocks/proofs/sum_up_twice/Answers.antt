-- `blocks::sum_up_twice` meets its contract. Assumes nothing.
use Rattle.blocks.specs.Blocks.{summed_twice}
use Rattle.blocks.proofs.sum_up_twice.Goals as goal

pub returns : goal.returns
returns c =
    summed_twice c.requires.0.factors _ _ _ _ _ c.requires.1 c.clear.ensures c.add_pairs.ensures c.double_sums.ensures
