-- `equality::compose_and_compose` meets its contract: the claim about any two calls, of what the two calls ensure. Assumes nothing.
use Rattle.two_calls.specs.TwoCalls.{compose}
use Rattle.two_calls.proofs.TwoCalls.{two_calls}
use Rattle.equality.proofs.compose_and_compose.Goals as goal

pub returns : goal.returns
returns c =
    let first = c.compose_blocks-first.ensures in
    let second = c.compose_blocks-second.ensures in
    record { compose = first; compose_2 = second; equality = two_calls (compose first) (compose second) }
