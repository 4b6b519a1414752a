-- `text::write_refused` meets its contract. Assumes nothing.
use Rattle.std.proofs.Common.{arith, length, ◌≤◌}
use Rattle.definition.specs.Text.{decimal, line_end, no_lead, refused}
use Rattle.decimal.specs.Digits.{word-length}
use Rattle.decimal.specs.Writing.{printed-append}
use Rattle.text.proofs.write_refused.Goals as goal
use Rattle.text.proofs.write_refused.Goals.{After-from}

short : (c : After-from) → length (decimal c.from.result) ≤ 10
short c = word-length c.from.result (omega arith)

pub write_after-next-requires : goal.write_after-next-requires
write_after-next-requires c = omega (arith, short (goal.at.write_after-next-requires c).After-from)

pub write_bytes-requires : goal.write_bytes-requires
write_bytes-requires c = omega (arith, short (goal.at.write_bytes-requires c).After-from, c.write_after-next.ensures.ends)

pub returns : goal.returns
unfolding line_end no_lead refused
returns c = rw (← c.from.ensures) (printed-append _ _ c.write_after-next.ensures c.write_bytes.ensures)
