-- `render::write_rendered` meets its contract. Assumes nothing.
use Rattle.std.proofs.Common.{arith}
use Rattle.refusal.specs.Bounds.{list-bounds}
use Rattle.text.specs.Lengths.{length-accepted, spaced-length}
use Rattle.decimal.specs.Digits.{long_length}
use Rattle.render.specs.Answered.{rendered-accepted, rendered-refused}
use Rattle.render.proofs.write_rendered.Goals as goal

pub write_accepted-requires : goal.write_accepted-requires
write_accepted-requires c =
    let few = (list-bounds c.args.n _ c.if-answer-eq0.true c.requires).1 in
    let list = spaced-length c.args.list.now (λ i inside. omega (arith, c.type_inv.list i)) in
    omega (arith, length-accepted c.args.n c.args.weight c.args.list.now, few, list, long_length c.args.n (omega arith), long_length c.args.weight (omega arith))

pub returns-then-answer-eq0 : goal.returns-then-answer-eq0
returns-then-answer-eq0 c = rw (rendered-accepted {number = c.args.answer} _ _ _ c.if-answer-eq0.true) c.write_accepted.ensures

pub returns-else-answer-eq0 : goal.returns-else-answer-eq0
returns-else-answer-eq0 c = rw (rendered-refused _ _ _ _ c.if-answer-eq0.false) c.write_refused.ensures
