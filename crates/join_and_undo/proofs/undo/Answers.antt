-- `join_and_undo::undo` meets its contract: the theorem about a reverse and two cycles, of what the three calls ensure. Assumes nothing.
use Rattle.sequence.proofs.Undone.{reverse-undone}
use Rattle.join_and_undo.proofs.undo.Goals as goal

pub returns : goal.returns
returns c =
    let reversed = c.reverse-reversed.ensures in
    let cycled = c.cycle_blocks-cycled.ensures in
    let undone = c.cycle_blocks-undone.ensures in
    record { calls = (_, _, _, reversed, cycled, undone); running_unchanged = reverse-undone reversed cycled undone }
