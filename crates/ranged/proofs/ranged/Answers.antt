-- `ranged::ranged` meets its contract: the powers, then the span of all blocks. Assumes nothing.
use Rattle.buffer.specs.Segments.{copy_down}
use Rattle.route.specs.Contract.{put-composed, put-within, route_moved}
use Rattle.ranged.specs.Whole.{whole-levels, whole-places, whole-powers, whole-small, whole-span, whole-value, whole-weight, whole-within}
use native.Mathlib.Omega.{arith}
use Prim.Native.Nat.{◌+◌, ◌*◌}
use lib.ListN.{length}
use mathlib.Core.Path.{◌∙◌}
use Rattle.ranged.proofs.ranged.Goals as goal

pub overflow_add-t : goal.overflow_add-t
overflow_add-t c =
    record { fits = omega (arith, whole-levels c.args.f.now c.requires.0 c.requires.1 c.rounds-levels.ensures) }

pub overflow_mul-t : goal.overflow_mul-t
overflow_mul-t c =
    record { fits = omega (arith, (whole-places c.args.f.now c.requires.0 c.requires.1 c.rounds-levels.ensures).0, c.requires.0.order) }

pub put-requires : goal.put-requires
put-requires c =
    omega (arith, c.requires.0.enough)

pub powers-formed-requires : goal.powers-formed-requires
powers-formed-requires c =
    (whole-powers c.args.f.now c.requires.0 c.requires.1 c.rounds-levels.ensures c.put.auto.w, c.requires.1)

pub compose_span-joined-requires : goal.compose_span-joined-requires
compose_span-joined-requires c =
    whole-span c.args.f.now c.requires.0 c.requires.1 c.rounds-levels.ensures c.powers-formed.ensures c.put.auto.w

pub copy_part-requires : goal.copy_part-requires
copy_part-requires c =
    let size = (whole-within c.args.f.now c.requires.0 c.requires.1 c.rounds-levels.ensures c.powers-formed.ensures c.compose_span-joined.ensures).size in
    copy_down (omega arith)
    (omega (arith, c.requires.0.enough, (whole-places c.args.f.now c.requires.0 c.requires.1 c.rounds-levels.ensures).0, c.put.auto.w, size))

pub plus-requires : goal.plus-requires
plus-requires c =
    omega (arith, whole-small c.args.f.now c.requires.0 c.requires.1 c.rounds-levels.ensures c.powers-formed.ensures c.compose_span-joined.ensures)

pub returns : goal.returns
returns c =
    let f = c.args.f.now in
    let g = c.args.g.now in
    let w = c.args.w.now in
    let number = c.rounds-levels.ensures in
    let made = c.powers-formed.ensures in
    let joined = c.compose_span-joined.ensures in
    let within = whole-within f c.requires.0 c.requires.1 number made joined in
    route_moved ((c.rounds-levels.result + 1) * c.args.n)
    (put-within (length f) g w c.put.ensures within (omega arith))
    (whole-value f c.requires.0 c.requires.1 number made joined
    ∙ put-composed f g w c.put.new.w c.requires.0.modulus (omega (arith, c.requires.0.enough)) c.put.ensures)
    (c.plus.ensures ∙ whole-weight f c.requires.0 c.requires.1 number made joined)
    (omega (arith, c.requires.0.enough, (whole-places f c.requires.0 c.requires.1 number).0, c.put.auto.w, within.size))
    c.copy_part.ensures
