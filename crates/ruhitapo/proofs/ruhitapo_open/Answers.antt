-- `ruhitapo::ruhitapo_open` meets its contract, which is that of `chain::Chain::open`. Assumes nothing.
use Rattle.ruhitapo.proofs.ruhitapo_open.Goals as goal

pub returns : goal.returns
returns c = rw (c.into.ensures.0, c.into.ensures.1) (rw (← c.into.ensures.2) at c.open.ensures)
