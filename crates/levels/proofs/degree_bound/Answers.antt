-- `levels::degree_bound` meets its contract. Assumes nothing.
use Rattle.definition.specs.Weight.{degree_bound}
use Rattle.levels.proofs.degree_bound.Goals as goal

pub returns : goal.returns
unfolding degree_bound
returns c = c.smaller.ensures
