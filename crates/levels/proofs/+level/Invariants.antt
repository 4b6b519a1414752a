-- `levels::level` meets its contract. The measure is the number of levels. Assumes nothing.
use Rattle.levels.proofs.+level.Given as goal

abbrev pub decreases-level : goal.decreases-level
decreases-level l = l.levels
