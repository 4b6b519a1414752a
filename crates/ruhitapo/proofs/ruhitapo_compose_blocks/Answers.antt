-- `ruhitapo::ruhitapo_compose_blocks` meets its contract, which is that of `compose::compose_blocks`. Assumes nothing.
use Rattle.ruhitapo.proofs.ruhitapo_compose_blocks.Goals as goal

pub returns : goal.returns
returns c = rw (c.into.ensures.0, c.into.ensures.1) c.compose_blocks.ensures
