-- `text::write_spaced` meets its contract: after a turn for each of i coefficients these are printed, and the first before them. Assumes nothing.
use Rattle.std.proofs.Common.{◌+◌, take}
use Rattle.definition.specs.Text.{spaced}
use Rattle.decimal.specs.Writing.{Printed}
use Rattle.text.proofs.write_spaced.Given as goal

abbrev pub invariant-loop-coefficient : goal.invariant-loop-coefficient
invariant-loop-coefficient l = Printed (spaced (take (l.coefficient-index + 1) l.list)) l.at l.fn.text l.text l.next
