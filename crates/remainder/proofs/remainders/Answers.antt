-- `remainder::remainders` meets its contract. Assumes nothing.
use Rattle.std.proofs.Common.{arith}
use Rattle.remainder.specs.Inverse.{between}
use Rattle.remainder.proofs.remainders.Goals as goal

pub by_inverse-requires : goal.by_inverse-requires
by_inverse-requires c =
    (between c.requires.0 (rw (← c.wide.ensures) (omega arith)), c.requires.1, c.requires.2)
