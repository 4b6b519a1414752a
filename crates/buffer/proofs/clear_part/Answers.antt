-- `buffer::clear_part` meets its contract: the part that is lent comes back cleared. Assumes nothing.
use native.Mathlib.Nat.{add-sub_cancel_left}
use Rattle.buffer.specs.Written.{cleared-part}
use Rattle.buffer.proofs.clear_part.Goals as goal

pub returns : goal.returns
returns c = rw (c.clear.ensures, add-sub_cancel_left) (cleared-part _ _ _ c.requires)
