-- `decimal::write_after` meets its contract. Assumes nothing.
use Rattle.decimal.specs.Writing.{printed-append}
use Rattle.decimal.proofs.write_after.Goals as goal

pub returns : goal.returns
returns c = printed-append _ _ c.write_bytes-next.ensures c.write_decimal.ensures
