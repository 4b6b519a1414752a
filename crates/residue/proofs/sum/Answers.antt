-- `residue::sum` meets its contract. Assumes nothing.
use Rattle.std.proofs.Common.{◌∙◌}
use Rattle.residue.specs.Residue.{sum-difference}
use Rattle.residue.proofs.sum.Goals as goal

pub returns : goal.returns
returns c = c.difference.ensures ∙ sum-difference c.requires.1 _
