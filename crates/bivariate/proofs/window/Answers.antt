-- `bivariate::window` meets its contract. Assumes nothing.
use Rattle.buffer.specs.Segments.{copy_down}
use native.Mathlib.Omega.{arith}
use mathlib.Core.Path.{◌∙◌}
use Rattle.bivariate.specs.Exact.{window-places, window-segment}
use Rattle.bivariate.proofs.window.Goals as goal

pub overflow_mul-low : goal.overflow_mul-low
overflow_mul-low c = omega (arith, window-places c.args.r _ _ c.requires.0)

pub overflow_add-a : goal.overflow_add-a
overflow_add-a c = omega (arith, window-places c.args.r _ _ c.requires.0)

pub overflow_mul-a : goal.overflow_mul-a
overflow_mul-a c = omega (arith, window-places c.args.r _ _ c.requires.0)

pub copy_part-requires : goal.copy_part-requires
copy_part-requires c =
    copy_down (omega arith) (omega (arith, window-places c.args.r _ _ c.requires.0))

pub returns : goal.returns
returns c =
    c.copy_part.ensures
    ∙ rw (window-segment c.args.r c.args.w.now c.args.a c.args.low c.requires.0 c.requires.1)
