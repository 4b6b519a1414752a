-- `summed_product::add_rows_at` meets its contract. Assumes nothing.
use Rattle.summed_product.specs.Terms.{added_none, pass_factors, pass_rows, zero-rows}
use mathlib.Core.Path.{refl}
use Rattle.summed_product.proofs.add_rows_at.Goals as goal

pub returns-then-eight_zeros : goal.returns-then-eight_zeros
returns-then-eight_zeros c =
    added_none (λ t b. zero-rows c.requires.pair c.args.i c.requires.inside (c.eight_zeros.ensures c.if-eight_zeros.true) t)

pub add_pass-requires : goal.add_pass-requires
add_pass-requires c =
    pass_factors c.requires.pair _ c.requires.inside c.requires.reached c.requires.reaches c.excess-from.ensures c.smaller-to.ensures refl

pub returns : goal.returns
returns c =
    pass_rows c.requires.pair _ c.requires.inside c.requires.reached c.requires.reaches c.excess-from.ensures c.smaller-to.ensures refl
    c.add_pass.ensures
