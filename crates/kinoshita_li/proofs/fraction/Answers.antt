-- `kinoshita_li::fraction` meets its contract. Assumes nothing.
use borrow.Author.Rules.{rules}
use Rattle.kinoshita_li.specs.Whole.{first_level, first_rows, fraction-done}
use Rattle.kinoshita_li.proofs.fraction.Goals as goal

pub denominator-requires : goal.denominator-requires
denominator-requires c =
    let lent = c.requires in
    (lent.modulus, first_rows lent)

pub level-requires : goal.level-requires
level-requires c =
    rw c.halvings.ensures
    (first_level c.requires c.denominator.auto.w)

pub returns : goal.returns
returns c =
    fraction-done c.requires _
    (rw (c.halvings.ensures, c.denominator.ensures) at c.level.ensures)
