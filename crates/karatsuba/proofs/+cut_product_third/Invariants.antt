-- The measure is twice the number of places, and one more in `third`.
use Rattle.std.specs.Prelude.{◌+◌, ◌*◌}
use Rattle.karatsuba.proofs.+cut_product_third.Given as goal

abbrev pub decreases-cut_product : goal.decreases-cut_product
decreases-cut_product l = 2 * l.n

abbrev pub decreases-third : goal.decreases-third
decreases-third l = 2 * l.count + 1
