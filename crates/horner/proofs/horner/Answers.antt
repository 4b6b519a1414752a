-- `horner::horner` meets its contract. Assumes nothing.
use Rattle.buffer.specs.Segments.{copy_down}
use native.Mathlib.Omega.{arith}
use mathlib.Core.Logic.{inl}
use mathlib.Core.Path.{◌∙◌}
use lib.ListN.{length}
use Rattle.route.specs.Contract.{put-composed, put-within, route_moved}
use Rattle.horner.proofs.horner.Goals as goal

pub put-requires : goal.put-requires
put-requires c =
    let lent = c.requires in
    omega (arith, lent.enough)

pub horner_part-weight-requires : goal.horner_part-weight-requires
horner_part-weight-requires c =
    let lent = c.requires in
    record {
      modulus = lent.modulus;
      positive = lent.positive;
      order = lent.order;
      outer = lent.outer;
      inner = record {
        source = omega (arith, lent.enough, c.put.auto.w);
        target = omega (arith, lent.enough, c.put.auto.w);
        apart = inl (omega arith);
      };
    }

pub copy_part-requires : goal.copy_part-requires
copy_part-requires c =
    let lent = c.requires in
    copy_down (omega arith) (omega (arith, lent.enough, c.put.auto.w, c.horner_part-weight.ensures.within.size))

pub returns : goal.returns
returns c =
    let done = c.horner_part-weight.ensures in
    let fits = c.requires.enough in
    route_moved c.args.n
    (put-within (length c.args.f.now) c.args.g.now c.args.w.now c.put.ensures done.within (omega arith))
    (done.value
    ∙ put-composed c.args.f.now c.args.g.now c.args.w.now c.put.new.w c.requires.modulus (omega arith)
    c.put.ensures)
    done.sum
    (omega (arith, c.put.auto.w, done.within.size))
    c.copy_part.ensures
