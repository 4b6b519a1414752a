-- `chain::Chain::carry_out` meets its contract. Assumes nothing.
use Rattle.std.proofs.Common.{arith, length, refl, sym}
use Rattle.std.proofs.lemmas.Result.{err_from_is_err_and}
use Rattle.chain.specs.Answered.{cycle-accepted, cycle-refused}
use Rattle.chain.specs.Record.{recorded}
use Rattle.reason.specs.Numbers.{refused}
use Rattle.refusal.specs.Bounds.{CycleBounds, cycle-bounds, field-lent}
use Rattle.chain.proofs.Chain.carry_out.Goals as goal
use Rattle.chain.proofs.Chain.carry_out.Goals.{In_ok-cycle}

-- what an accepted call tells
bounds : (c : In_ok-cycle) → CycleBounds c.args.route c.args.b (recorded c.args.self.now) c.args.list.now c.args.running.now
    (length c.args.work.now)
bounds c = cycle-bounds _ _ _ _ _ _ (sym c.in_ok-cycle.ensures)

pub returns-in_err-cycle : goal.returns-in_err-cycle
returns-in_err-cycle c =
    let error = err_from_is_err_and c.from_residual.result c.from_residual.ensures.1 in
    rw (error.1, error.2) (cycle-refused c.args.list.now c.args.running.now c.args.work.now c.in_err-cycle.ensures (refused _))

pub run-products-requires : goal.run-products-requires
run-products-requires c =
    let told = bounds (goal.at.run-products-requires c).In_ok-cycle in (
      field-lent told.field (omega (arith, told.running, told.inner, told.field.order)) (omega (arith, told.running, told.enough)),
      told.field.prime,
      told.blocks,
    )

pub cycle_places-requires : goal.cycle_places-requires
cycle_places-requires c =
    let told = bounds (goal.at.cycle_places-requires c).In_ok-cycle in
    (told.field.order, told.inner)

pub finish-requires : goal.finish-requires
finish-requires c =
    let told = bounds (goal.at.finish-requires c).In_ok-cycle in
    let size = c.run-products.auto.w in (
      omega (arith, told.running, told.enough, size),
      omega (arith, c.cycle_places.ensures, told.enough, size),
    )

pub overflow_add-self : goal.overflow_add-self
overflow_add-self c = omega (arith, (bounds (goal.at.overflow_add-self c).In_ok-cycle).not_full)

pub returns : goal.returns
returns c =
    let args = c.args in
    cycle-accepted args.list.now args.running.now args.work.now c.in_ok-cycle.ensures refl
    (bounds (goal.at.returns c).In_ok-cycle).running c.run-products.ensures c.value-weight.ensures c.cycle_places.ensures c.finish.ensures
