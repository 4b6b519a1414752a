-- `decimal::decimal_places` falls by the number. Assumes nothing.
use Rattle.decimal.proofs.+decimal_places.Given as goal

abbrev pub decreases-decimal_places : goal.decreases-decimal_places
decreases-decimal_places l = l.v
