-- `compose::compose` meets its contract, which is that of `compose::compose_blocks` at the length 4. Assumes nothing.
use Rattle.compose.proofs.compose.Goals as goal

pub returns : goal.returns
returns c = c.compose_blocks.ensures
