-- `double_parity::weave_row` meets its contract. Assumes nothing.
use native.Mathlib.Omega.{arith}
use mathlib.Core.Path.{sym, ap, ◌∙◌}
use lib.Seq.{sets}
use Rattle.definition.specs.Lists.{tabulate}
use Rattle.double_parity.specs.Weave.{row_fits, row_needs, row-woven}
use Rattle.double_parity.proofs.weave_row.Goals as goal

pub overflow_mul-a : goal.overflow_mul-a
overflow_mul-a c =
    record { fits = omega (arith, (row_fits c.requires.0 c.requires.1 c.requires.2).0, c.well_formed) }

pub overflow_mul-b : goal.overflow_mul-b
overflow_mul-b c =
    record { fits = omega (arith, (row_fits c.requires.0 c.requires.1 c.requires.2).1, c.well_formed) }

pub weave-requires : goal.weave-requires
weave-requires c =
    row_needs c.requires.0 c.requires.1 c.requires.2 c.requires.3

pub returns : goal.returns
returns c =
    c.weave.ensures
    ∙ ap (λ f. sets c.args.z.now c.args.at (tabulate c.args.t.places f))
    (sym (row-woven c.requires.0 c.requires.1 c.requires.2))
