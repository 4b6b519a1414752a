-- `bernstein::bernstein` meets its contract. Assumes nothing.
use Rattle.buffer.specs.Segments.{copy_down}
use native.Mathlib.Omega.{arith}
use Prim.Native.Nat.{◌+◌}
use mathlib.Core.Path.{◌∙◌}
use lib.ListN.{length}
use Rattle.route.specs.Contract.{put-composed, put-within, route_moved}
use Rattle.bernstein.specs.Level.{level_put}
use Rattle.bernstein.proofs.bernstein.Goals as goal

pub put-requires : goal.put-requires
put-requires c = omega (arith, c.requires.0.enough)

pub put-requires-2 : goal.put-requires-2
put-requires-2 c =
    omega (arith, c.requires.0.enough, c.put.auto.w)

pub level-weight-requires : goal.level-weight-requires
level-weight-requires c =
    record {
      prime = c.requires.1;
      positive = c.requires.0.positive;
      order = c.requires.0.order;
      outer = c.requires.0.outer;
      room = omega (arith, c.requires.0.enough, c.put.auto.w, c.put-2.auto.w);
    }

pub copy_part-requires : goal.copy_part-requires
copy_part-requires c =
    copy_down (omega arith)
    (omega (arith, c.requires.0.enough, c.level-weight.ensures.within.size, c.put-2.auto.w, c.put.auto.w))

pub returns : goal.returns
returns c =
    let f = c.args.f.now in
    let fits = c.requires.0.enough in
    let done = level_put f (omega (arith, c.put.auto.w)) c.put-2.ensures c.level-weight.ensures in
    route_moved (c.args.n + length f)
    (put-within (length f) c.args.g.now c.args.w.now c.put.ensures done.0 (omega arith))
    (done.1
    ∙ put-composed f c.args.g.now c.args.w.now c.put.new.w c.requires.0.modulus (omega arith) c.put.ensures)
    c.level-weight.ensures.sum
    (omega (arith, c.level-weight.ensures.within.size, c.put-2.auto.w, c.put.auto.w))
    c.copy_part.ensures
