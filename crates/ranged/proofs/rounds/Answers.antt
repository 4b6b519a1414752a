-- `ranged::rounds` meets its contract. Assumes nothing.
use mathlib.Core.Path.{◌∙◌}
use Rattle.ranged.proofs.rounds.Goals as goal

pub returns : goal.returns
returns c = c.halvings.ensures ∙ rw c.rounded_up.ensures
