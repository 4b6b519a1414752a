-- `reversion::reverse` meets its contract. Assumes nothing.
use Rattle.std.proofs.Common.{arith, length, sym}
use Rattle.std.proofs.lemmas.Result.{err_from_is_err_and}
use Rattle.reason.specs.Numbers.{refused}
use Rattle.refusal.specs.Bounds.{ReverseBounds, reverse-bounds}
use Rattle.reversion.specs.Answered.{reverse-accepted, reverse-reversible, reverse-refused}
use Rattle.reversion.proofs.reverse.Goals as goal
use Rattle.reversion.proofs.reverse.Goals.{In_ok-reverse}

-- what an accepted call tells
bounds : (c : In_ok-reverse) → ReverseBounds c.args.p c.args.n c.args.g.now (length c.args.out.now) (length c.args.work.now)
bounds c = reverse-bounds _ _ _ _ _ (sym c.in_ok-reverse.ensures)

pub returns-in_err-reverse : goal.returns-in_err-reverse
returns-in_err-reverse c =
    let args = c.args in
    let error = err_from_is_err_and c.from_residual.result c.from_residual.ensures.1 in
    rw (error.1, error.2)
    (reverse-refused args.p args.n args.g.now args.out.now args.work.now c.in_err-reverse.ensures (refused _))

pub newton-requires : goal.newton-requires
newton-requires c =
    let args = c.args in
    reverse-reversible args.p args.n args.g.now args.out.now args.work.now (sym c.in_ok-reverse.ensures)

pub work_places-requires : goal.work_places-requires
work_places-requires c =
    let told = bounds (goal.at.work_places-requires c).In_ok-reverse in
    (told.field.order, told.inner)

pub clear-requires : goal.clear-requires
clear-requires c =
    let told = bounds (goal.at.clear-requires c).In_ok-reverse in
    omega (arith, told.enough, c.work_places.ensures, c.newton.ensures.within.size)

pub returns : goal.returns
returns c =
    let args = c.args in
    reverse-accepted args.p args.n args.g.now args.out.now args.work.now (sym c.in_ok-reverse.ensures) c.newton.ensures
    c.work_places.ensures c.clear.ensures
