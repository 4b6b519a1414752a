-- `equality::cycle_and_cycle` meets its contract: the claim about any two calls, of what the two calls ensure. Assumes nothing.
use Rattle.two_calls.specs.TwoCalls.{cycle}
use Rattle.two_calls.proofs.TwoCalls.{two_calls}
use Rattle.equality.proofs.cycle_and_cycle.Goals as goal

pub returns : goal.returns
returns c =
    let first = c.cycle_blocks-first.ensures in
    let second = c.cycle_blocks-second.ensures in
    record { cycle = first; cycle_2 = second; equality = two_calls (cycle first) (cycle second) }
