-- `bernstein::prepare` meets its contract. Assumes nothing.
use mathlib.Core.Path.{◌∙◌}
use Rattle.bernstein.specs.Loop.{room-powers}
use Rattle.bernstein.proofs.prepare.Goals as goal

pub pth_powers-requires : goal.pth_powers-requires
pth_powers-requires c =
    let room = c.requires in
    (room.prime, rw c.rounded_up-order.ensures (room-powers room))

pub returns : goal.returns
returns c = c.pth_powers.ensures ∙ rw c.rounded_up-order.ensures
