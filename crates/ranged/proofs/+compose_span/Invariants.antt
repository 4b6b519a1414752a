-- `ranged::compose_span` meets its contract. The measure is the level. Assumes nothing.
use Rattle.ranged.proofs.+compose_span.Given as goal

abbrev pub decreases-compose_span : goal.decreases-compose_span
decreases-compose_span l = l.level
