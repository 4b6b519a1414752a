-- `chain::Chain::cycle` meets its contract, which is that of `chain::Chain::cycle_blocks` at the length 4. Assumes nothing.
use Rattle.chain.proofs.Chain.cycle.Goals as goal

pub returns : goal.returns
returns c = c.cycle_blocks.ensures
