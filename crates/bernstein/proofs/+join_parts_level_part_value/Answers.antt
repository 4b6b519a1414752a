-- `bernstein::level`, `join_parts` and `part_value` meet their contracts. Assumes nothing.
use Rattle.std.specs.Prelude.{ℕ, suc, ◌-◌, ◌≡◌}
use Rattle.std.proofs.Common.{arith, rules}
use Rattle.bernstein.specs.Level.{level_constant}
use Rattle.bernstein.specs.Loop.{PartsJoined, Prepared, level_rebased, parts_first, parts_level, parts_rebased, parts-small, parts_turn, prepared-first, prepared_ready}
use Rattle.bernstein.specs.Rest.{fewer, rest-fits, part-value-written, room-part, room-rest, room-spread}
use Rattle.bernstein.proofs.+join_parts_level_part_value.Goals as goal
use Rattle.bernstein.proofs.+join_parts_level_part_value.Goals.{join_parts-After-prepare, join_parts-After-copy_part}

-- h is written
prepared : {t : ℕ} → (c : join_parts-After-prepare t) → Prepared c.args.p c.args.n c.args.m c.args.w.now c.prepare.new.w
prepared c = prepared-first c.requires.0 c.requires.1 c.prepare.ensures

-- the top part is joined
top_joined : {t : ℕ} → (c : join_parts-After-copy_part t)
    → PartsJoined c.args.p c.args.n c.args.m c.args.w.now c.top_part-j.result c.copy_part.new.w c.part_value-weight.result.places
top_joined c =
    parts_first (prepared-first c.requires.0 c.requires.1 c.prepare.ensures) c.top_part-j.ensures c.part_value-weight.ensures c.copy_part.ensures

pub level-returns-then-m-le1 : goal.level-returns-then-m-le1
level-returns-then-m-le1 t c = rw c.none.ensures (level_constant c.requires c.if-m-le1.true c.constant.ensures)

pub part_value-overflow_add-at : goal.part_value-overflow_add-at
part_value-overflow_add-at t c = omega (arith, (room-part c.requires c.rounded_up-order.ensures).target)

pub part_value-part-count-requires : goal.part_value-part-count-requires
part_value-part-count-requires t c = (search rules, search rules, search rules, room-part c.requires c.rounded_up-order.ensures)

pub part_value-level-sum-requires : goal.part_value-level-sum-requires
part_value-level-sum-requires t c =
    (omega (arith, fewer c.requires c.rounded_up-order.ensures c.part-count.ensures), room-rest c.requires c.rounded_up-order.ensures c.part-count.ensures)

pub part_value-overflow_add-at-2 : goal.part_value-overflow_add-at-2
part_value-overflow_add-at-2 t c = omega (arith, rest-fits c.requires c.rounded_up-order.ensures c.part-count.ensures)

pub part_value-spread-requires : goal.part_value-spread-requires
part_value-spread-requires t c =
    (search rules, room-spread c.requires c.rounded_up-order.ensures c.part-count.ensures c.level-sum.ensures)

pub part_value-returns : goal.part_value-returns
part_value-returns t c = part-value-written c.requires c.rounded_up-order.ensures c.part-count.ensures c.level-sum.ensures c.spread.ensures

pub join_parts-part_value-weight-requires : goal.join_parts-part_value-weight-requires
join_parts-part_value-weight-requires t c = (
  omega arith,
  prepared_ready (prepared (goal.at.join_parts-part_value-weight-requires t c).After-prepare) _ (omega (arith, c.top_part-j.ensures, c.requires.1)),
)

pub join_parts-loop-j-init : goal.join_parts-loop-j-init
join_parts-loop-j-init t c = parts_rebased (top_joined (goal.at.join_parts-loop-j-init t c).After-copy_part)

pub join_parts-part_value-composed-requires : goal.join_parts-part_value-composed-requires
join_parts-part_value-composed-requires t c = (
  omega arith,
  prepared_ready c.loop-j.invariant.prepared _ (omega (arith, c.loop-j.invariant.index)),
)

pub join_parts-plus-requires : goal.join_parts-plus-requires
join_parts-plus-requires t c =
    let down : suc (c.loop-j.j - 1) ≡ c.loop-j.j = omega arith in
    omega (arith, parts-small c.loop-j.invariant down, c.part_value-composed.ensures.sum, c.join-joined.ensures.places)

pub join_parts-plus-weight-requires : goal.join_parts-plus-weight-requires
join_parts-plus-weight-requires t c =
    let down : suc (c.loop-j.j - 1) ≡ c.loop-j.j = omega arith in
    omega (arith, parts-small c.loop-j.invariant down, c.part_value-composed.ensures.sum, c.join-joined.ensures.places, c.plus.ensures)

pub join_parts-loop-j-preserved : goal.join_parts-loop-j-preserved
join_parts-loop-j-preserved t c =
    let down : suc (c.loop-j.j - 1) ≡ c.loop-j.j = omega arith in
    rw (c.plus-weight.ensures, c.plus.ensures)
    (parts_turn c.loop-j.invariant down c.part_value-composed.ensures c.join-joined.ensures)

pub join_parts-returns : goal.join_parts-returns
join_parts-returns t c =
    level_rebased (top_joined (goal.at.join_parts-returns t c).After-copy_part).prepared (parts_level c.loop-j.invariant (omega arith))
