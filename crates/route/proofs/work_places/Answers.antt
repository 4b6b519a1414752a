-- `route::work_places` meets its contract. Assumes nothing.
use mathlib.Core.Path.{refl}
use Rattle.route.proofs.work_places.Goals as goal

pub returns : goal.returns
returns c = refl
