-- `ruhitapo::ruhitapo_cycle_blocks_numbers` meets its contract, which is that of `chain::Chain::cycle_blocks`. Assumes nothing.
use Rattle.ruhitapo.proofs.ruhitapo_cycle_blocks_numbers.Goals as goal

pub returns : goal.returns
returns c = rw (c.into-answer.ensures.0, c.into-answer.ensures.1) c.cycle_blocks-cycled.ensures
