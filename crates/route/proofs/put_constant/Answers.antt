-- `route::put_constant` meets its contract: c is written over the first of n zeros. Assumes nothing.
use Rattle.route.specs.Table.{constant-written}
use Rattle.route.proofs.put_constant.Goals as goal

pub returns : goal.returns
returns c =
    rw c.clear_part.ensures (constant-written c.args.w.now c.args.t c.args.n c.args.c c.requires.0)
