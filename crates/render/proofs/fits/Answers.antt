-- `render::fits` meets its contract. Assumes nothing.
use Rattle.std.proofs.Common.{arith}
use Rattle.refusal.specs.Bounds.{list-bounds}
use Rattle.render.specs.Answered.{longest-fits, render-fitting}
use Rattle.render.proofs.fits.Goals as goal

pub longest-requires : goal.longest-requires
longest-requires c = λ accepted. (list-bounds _ _ accepted c.requires).1

pub returns-then-longest-room : goal.returns-then-longest-room
returns-then-longest-room c =
    let args = c.args in
    let bytes = c.longest.ensures in
    render-fitting args.answer args.n _ _ args.room c.requires
    (longest-fits args.answer args.n args.weight args.list.now c.requires (omega arith) (omega arith) (λ i inside. omega (arith, c.type_inv.list i))
    bytes.accepted bytes.refused c.if-longest-room.true)
