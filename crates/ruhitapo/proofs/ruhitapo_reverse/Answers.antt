-- `ruhitapo::ruhitapo_reverse` meets its contract, which is that of `reversion::reverse`. Assumes nothing.
use Rattle.std.proofs.Common.{arith}
use Rattle.ruhitapo.proofs.ruhitapo_reverse.Goals as goal

pub returns : goal.returns
returns c = grind (arith, c.reverse.ensures, c.into.ensures, c.map.ensures)
