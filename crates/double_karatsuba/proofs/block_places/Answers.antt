-- `double_karatsuba::block_places` meets its contract. Assumes nothing.
use native.Mathlib.Omega.{arith}
use mathlib.Core.Path.{sym}
use Rattle.grids.specs.Parts.{block_places}
use Rattle.double_karatsuba.proofs.block_places.Goals as goal

pub overflow_add-result : goal.overflow_add-result
overflow_add-result c = record { fits = omega (arith, c.requires.1) }

pub overflow_mul-result : goal.overflow_mul-result
unfolding block_places
overflow_mul-result c = record { fits = rw c.if-turned.true at c.requires.2 }

pub overflow_add-result-else-turned : goal.overflow_add-result-else-turned
overflow_add-result-else-turned c = record { fits = omega (arith, c.requires.0) }

pub overflow_mul-result-else-turned : goal.overflow_mul-result-else-turned
unfolding block_places
overflow_mul-result-else-turned c = record { fits = rw c.if-turned.false at c.requires.2 }

pub returns-then-turned : goal.returns-then-turned
unfolding block_places
returns-then-turned c = sym (rw c.if-turned.true)

pub returns-else-turned : goal.returns-else-turned
unfolding block_places
returns-else-turned c = sym (rw c.if-turned.false)
