-- `remainder::to_50_bits` meets its contract. Assumes nothing.
use Rattle.std.proofs.Common.{arith, rules}
use Rattle.remainder.specs.Inverse.{first_step, inverse-small, product_small}
use Rattle.remainder.proofs.to_50_bits.Goals as goal

pub times-q-requires : goal.times-q-requires
times-q-requires c = (omega arith, inverse-small c.requires.0 c.requires.1)

pub times-requires : goal.times-requires
times-requires c =
    (omega (arith, product_small c.requires.0 c.requires.1 _ (omega arith) c.times-q.ensures), omega (arith, c.requires.0.most))

pub returns : goal.returns
returns c =
    first_step
    c.requires.0
    c.requires.1
    c.requires.2
    c.requires.3
    c.ranges.sum.fits
    c.times-q.ensures
    c.times.ensures
    (search rules)
    c.wrapping_sub_u64.ensures.value
