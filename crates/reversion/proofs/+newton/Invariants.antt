-- `reversion::newton` meets its contract. The measure is the order. Assumes nothing.
use lib.ListN.{length}
use Rattle.reversion.proofs.+newton.Given as goal

abbrev pub decreases-newton : goal.decreases-newton
decreases-newton l = length l.h.now
