-- `residue::reduced` meets its contract: a number below p is its own remainder. Assumes nothing.
use Rattle.std.proofs.Common.{sym, mod-eq_of_lt}
use Rattle.residue.proofs.reduced.Goals as goal

pub returns-then-x-p : goal.returns-then-x-p
returns-then-x-p c = sym (mod-eq_of_lt c.if-x-p.true)
