-- `join_and_undo::join` meets its contract: the claim about a compose of two running series, of what the call ensures. Assumes nothing.
use Rattle.sequence.proofs.Cut.{compose-joined}
use Rattle.join_and_undo.proofs.join.Goals as goal

pub returns : goal.returns
returns c =
    let composed = c.compose_blocks.ensures in
    record { compose = composed; joined = compose-joined composed }
