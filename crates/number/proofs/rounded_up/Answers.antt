-- `number::rounded_up` meets its contract. Assumes nothing.
use mathlib.Core.Path.{refl}
use Rattle.definition.specs.Lists.{ceil_div}
use Rattle.number.proofs.rounded_up.Goals as goal

pub returns : goal.returns
unfolding ceil_div
returns c = refl
