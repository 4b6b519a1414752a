-- `rows::add_to` meets its contract. Assumes nothing.
use Rattle.rows.proofs.add_to.Goals as goal

pub returns : goal.returns
returns c = rw c.wrapping_add_u64.ensures.value
