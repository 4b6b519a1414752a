-- `render::render` meets its contract. Assumes nothing.
use Rattle.std.proofs.Common.{arith, refl, sym}
use Rattle.std.proofs.lemmas.Result.{err_from_is_err_and}
use Rattle.decimal.specs.Writing.{printed_written}
use Rattle.reason.specs.Numbers.{refused}
use Rattle.refusal.specs.Bounds.{list-passed}
use Rattle.render.specs.Answered.{render_accepted, render_fits, render-listed, render_refused}
use Rattle.render.proofs.render.Goals as goal

pub returns-in_err-list : goal.returns-in_err-list
returns-in_err-list c =
    let args = c.args in
    let error = err_from_is_err_and c.from_residual.result c.from_residual.ensures.1 in
    rw (error.1, error.2)
    (render-listed args.answer args.n args.weight args.list.now args.text.now c.in_err-list.ensures (refused _))

pub fits-requires : goal.fits-requires
fits-requires c = list-passed _ _ _ (sym c.in_ok-list.ensures)

pub returns-in_err-fits : goal.returns-in_err-fits
returns-in_err-fits c =
    let args = c.args in
    let error = err_from_is_err_and c.from_residual-in_err-fits.result c.from_residual-in_err-fits.ensures.1 in
    rw (error.1, error.2)
    (render_refused args.answer args.n args.weight args.list.now args.text.now (λ passes. refl) c.in_err-fits.ensures (refused _))

pub write_rendered-requires : goal.write_rendered-requires
write_rendered-requires c = list-passed _ _ _ (sym c.in_ok-list.ensures)

pub returns : goal.returns
returns c =
    let args = c.args in
    let fits = render_fits args.answer args.n args.weight args.list.now args.text.now (λ passes. refl) c.in_ok-fits.ensures refl in
    render_accepted args.answer args.n args.weight args.list.now args.text.now (λ passes. refl) c.in_ok-fits.ensures refl
    (printed_written c.write_rendered.ensures (omega (arith, c.write_rendered.ensures.ends, fits.1)))
