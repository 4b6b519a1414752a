-- `parity::cross` meets its contract, by the differences that it calls. Assumes nothing.
use borrow.Author.Rules.{rules}
use native.Mathlib.Nat.{le-add_right, lt_of_lt_of_le, mod-lt}
use native.Mathlib.Omega.{arith}
use mathlib.Core.Path.{◌∙◌}
use Rattle.parity.proofs.cross.Goals as goal

pub difference-requires-2 : goal.difference-requires-2
difference-requires-2 c =
    (rw c.difference.ensures (lt_of_lt_of_le (mod-lt _ (omega arith)) (le-add_right _ _)), search rules)

pub returns : goal.returns
returns c = c.difference-2.ensures ∙ rw c.difference.ensures
