-- `ruhitapo::ruhitapo_compose` meets its contract, which is that of `compose::compose`. Assumes nothing.
use Rattle.ruhitapo.proofs.ruhitapo_compose.Goals as goal

pub returns : goal.returns
returns c = rw (c.into.ensures.0, c.into.ensures.1) c.compose.ensures
