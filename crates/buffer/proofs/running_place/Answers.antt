-- `buffer::running_place` meets its contract. Assumes nothing.
use native.Mathlib.Omega.{arith}
use mathlib.Core.Path.{refl}
use Rattle.buffer.specs.Turns.{running-inside, running_place}
use Rattle.buffer.proofs.running_place.Goals as goal

pub overflow_mul-result : goal.overflow_mul-result
unfolding running_place
overflow_mul-result c = record { fits = omega (arith, (running-inside c.args.n c.args.t c.args.i).1, c.requires) }

pub overflow_add-result : goal.overflow_add-result
unfolding running_place
overflow_add-result c = record { fits = omega (arith, (running-inside c.args.n c.args.t c.args.i).1, c.requires) }

pub returns : goal.returns
unfolding running_place
returns c = refl
