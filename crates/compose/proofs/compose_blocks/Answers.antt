-- `compose::compose_blocks` meets its contract. Assumes nothing.
use Rattle.std.proofs.Common.{arith, length, refl, sym}
use Rattle.std.proofs.lemmas.Result.{err_from_is_err_and}
use Rattle.compose.specs.Answered.{bounds-lent, compose-accepted, compose-refused}
use Rattle.reason.specs.Numbers.{refused}
use Rattle.refusal.specs.Bounds.{ComposeBounds, compose-bounds}
use Rattle.compose.proofs.compose_blocks.Goals as goal
use Rattle.compose.proofs.compose_blocks.Goals.{In_ok-compose}

-- what an accepted call tells
bounds : (c : In_ok-compose) → ComposeBounds c.args.route c.args.b c.args.p c.args.n c.args.f.now c.args.g.now
    (length c.args.out.now) (length c.args.work.now)
bounds c = compose-bounds _ _ _ _ _ _ _ _ (sym c.in_ok-compose.ensures)

pub returns-in_err-compose : goal.returns-in_err-compose
returns-in_err-compose c =
    let error = err_from_is_err_and c.from_residual.result c.from_residual.ensures.1 in
    rw (error.1, error.2) (compose-refused c.args.f.now c.args.g.now c.args.out.now c.args.work.now c.in_err-compose.ensures (refused _))

pub run-requires : goal.run-requires
run-requires c =
    let told = bounds (goal.at.run-requires c).In_ok-compose in
    (bounds-lent told, told.field.prime, told.blocks)

pub work_places-requires : goal.work_places-requires
work_places-requires c =
    let told = bounds (goal.at.work_places-requires c).In_ok-compose in
    (told.field.order, told.outer)

pub finish-requires : goal.finish-requires
finish-requires c =
    let told = bounds (goal.at.finish-requires c).In_ok-compose in
    let size = c.run.auto.w in
    (omega (arith, told.output, (bounds-lent told).enough, size), omega (arith, c.work_places.ensures, told.enough, size))

pub returns : goal.returns
returns c =
    let args = c.args in
    compose-accepted args.f.now args.g.now args.out.now args.work.now c.in_ok-compose.ensures refl
    (bounds (goal.at.returns c).In_ok-compose).output c.run.ensures c.value-weight.ensures c.work_places.ensures c.finish.ensures
