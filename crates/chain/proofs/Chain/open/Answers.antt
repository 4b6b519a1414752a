-- `chain::Chain::open` meets its contract. Assumes nothing.
use Rattle.std.proofs.Common.{sym, refl}
use Rattle.std.proofs.lemmas.Result.{err_from_is_err_and}
use Rattle.chain.specs.Answered.{open_accepted, open_refused}
use Rattle.reason.specs.Numbers.{refused}
use Rattle.refusal.specs.Bounds.{open_bounds}
use Rattle.chain.proofs.Chain.open.Goals as goal

pub returns-in_err-open : goal.returns-in_err-open
returns-in_err-open c =
    let error = err_from_is_err_and c.from_residual.result c.from_residual.ensures.1 in
    rw (error.1, error.2) (open_refused c.args.running.now c.in_err-open.ensures (refused _))

pub returns : goal.returns
returns c =
    let accepted = c.in_ok-open.ensures in
    open_accepted c.args.running.now accepted refl (open_bounds _ _ _ (sym accepted)).output c.put_identity.ensures
