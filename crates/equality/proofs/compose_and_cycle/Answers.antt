-- `equality::compose_and_cycle` meets its contract: the claim about any two calls, of what the two calls ensure. Assumes nothing.
use Rattle.two_calls.specs.TwoCalls.{compose, cycle}
use Rattle.two_calls.proofs.TwoCalls.{two_calls}
use Rattle.equality.proofs.compose_and_cycle.Goals as goal

pub returns : goal.returns
returns c =
    let first = c.compose_blocks-first.ensures in
    let second = c.cycle_blocks-second.ensures in
    record { compose = first; cycle = second; equality = two_calls (compose first) (cycle second) }
