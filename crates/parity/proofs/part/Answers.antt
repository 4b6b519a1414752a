-- `parity::part` meets its contract, by what it calls. Assumes nothing.
use native.Mathlib.Omega.{arith}
use Rattle.parity.specs.Halves.{part-second, part-sums}
use Rattle.parity.proofs.part.Goals as goal

pub returns-then-which-lt2 : goal.returns-then-which-lt2
returns-then-which-lt2 c =
    let given = c.args in
    rw (← part-second given.p given.n given.count given.x.now given.which (omega arith)) c.every_second.ensures

pub returns-else-which-lt2 : goal.returns-else-which-lt2
returns-else-which-lt2 c =
    let given = c.args in
    rw (← part-sums given.p given.n given.count given.x.now given.which (omega arith)) c.pair_sums.ensures
