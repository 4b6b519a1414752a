-- `remainder::low_part` meets its contract. Assumes nothing.
use Rattle.std.proofs.Common.{◌^◌, ◌<◌, rules}
use Rattle.rows.specs.Sums.{low_part_lem}
use Rattle.remainder.proofs.low_part.Goals as goal
use Rattle.remainder.proofs.low_part.Goals.{After-wrapping_sub_u64}

whole : (c : After-wrapping_sub_u64) → c.wrapping_sub_u64.result < 2 ^ 64
whole c = search rules

pub returns : goal.returns
returns c = low_part_lem _ (whole c) c.wrapping_sub_u64.ensures.value
