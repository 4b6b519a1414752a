-- `remainder::to_twice` meets its contract. Assumes nothing.
use Rattle.std.proofs.Common.{◌≡◌, ◌+◌, ◌-◌, ◌%◌, ◌<◌, ◌≤◌, arith}
use Rattle.remainder.specs.Inverse.{inverse-small, product_small, second-step}
use Rattle.remainder.proofs.to_twice.Goals as goal
use Rattle.remainder.proofs.to_twice.Goals.{After-times}

step : (c : After-times) → let r = c.args.r in let m = c.args.m in
    (c.times.result ≤ r) × (r - c.times.result < m + m) × ((r - c.times.result) % m ≡ r % m)
step c =
    second-step c.requires.0 c.requires.1 c.requires.2 c.times-q.ensures c.times.ensures

pub times-q-requires : goal.times-q-requires
times-q-requires c = (omega arith, inverse-small c.requires.0 c.requires.1)

pub times-requires : goal.times-requires
times-requires c =
    (omega (arith, product_small c.requires.0 c.requires.1 _ (omega arith) c.times-q.ensures), omega (arith, c.requires.0.most))

pub overflow_sub-result : goal.overflow_sub-result
overflow_sub-result c = (step c).0

pub returns : goal.returns
returns c = ((step c).1, (step c).2)
