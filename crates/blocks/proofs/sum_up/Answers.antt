-- `blocks::sum_up` meets its contract. Assumes nothing.
use Rattle.blocks.specs.Blocks.{square-factors, square-sums}
use Rattle.blocks.proofs.sum_up.Goals as goal

pub sum_up_square-requires : goal.sum_up_square-requires
sum_up_square-requires c =
    (square-factors c.requires.0, c.requires.2)

pub returns-then-square : goal.returns-then-square
returns-then-square c =
    square-sums c.requires.1 c.if-square.true _ _ c.sum_up_square.ensures
