-- `route::place` meets its contract. Assumes nothing.
use native.Mathlib.Omega.{arith}
use mathlib.Core.Path.{refl, sym}
use Rattle.algebra.specs.Lists.{coefficient_beyond}
use Rattle.definition.specs.Lists.{coefficient}
use Rattle.route.proofs.place.Goals as goal

pub returns-then-k-l : goal.returns-then-k-l
unfolding coefficient
returns-then-k-l c = refl

pub returns-else-k-l : goal.returns-else-k-l
returns-else-k-l c = sym (coefficient_beyond _ _ (omega arith))
