-- `ruhitapo::ruhitapo_cycle_numbers` meets its contract, which is that of `ruhitapo_cycle_blocks_numbers` at the length 4. Assumes nothing.
use Rattle.ruhitapo.proofs.ruhitapo_cycle_numbers.Goals as goal

pub returns : goal.returns
returns c = c.ruhitapo_cycle_blocks_numbers.ensures
