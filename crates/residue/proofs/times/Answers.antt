-- `residue::times` meets its contract: a number of 32 bits is its own remainder. Assumes nothing.
use Rattle.std.proofs.Common.{mod-eq_of_lt, arith}
use Rattle.residue.specs.Residue.{product-below}
use Rattle.residue.proofs.times.Goals as goal

pub overflow_mul-result : goal.overflow_mul-result
overflow_mul-result c = record { fits = rw (mod-eq_of_lt c.requires.0, mod-eq_of_lt c.requires.1) (omega (arith, product-below c.requires.0 c.requires.1)) }

pub returns : goal.returns
returns c = rw (mod-eq_of_lt c.requires.0, mod-eq_of_lt c.requires.1)
