-- `text::write_accepted` meets its contract: its parts are as long together as the text. Assumes nothing.
use Rattle.std.proofs.Common.{[], ◌∷◌, arith}
use Rattle.definition.specs.Text.{accepted, line_end, ok_lead, space, spaced}
use Rattle.decimal.specs.Writing.{printed-append}
use Rattle.text.specs.Lengths.{length-accepted}
use Rattle.text.proofs.write_accepted.Goals as goal

pub write_after-next-requires : goal.write_after-next-requires
write_after-next-requires c = omega (arith, length-accepted)

pub write_after-next-requires-2 : goal.write_after-next-requires-2
write_after-next-requires-2 c = omega (arith, length-accepted)

pub write_bytes-next-requires : goal.write_bytes-next-requires
write_bytes-next-requires c = omega (arith, length-accepted)

pub write_spaced-next-requires : goal.write_spaced-next-requires
write_spaced-next-requires c = omega (arith, length-accepted)

pub write_bytes-requires : goal.write_bytes-requires
write_bytes-requires c = omega (arith, length-accepted)

pub returns : goal.returns
unfolding accepted line_end ok_lead space
returns c =
    let weight = printed-append _ _ c.write_after-next.ensures c.write_after-next-2.ensures in
    let list = printed-append (line_end ∷ []) (spaced c.args.list.now) c.write_bytes-next.ensures c.write_spaced-next.ensures in
    printed-append _ _ (printed-append _ _ weight list) c.write_bytes.ensures
