-- `remainder::by_multiplication` meets its contract. Assumes nothing.
use Rattle.std.proofs.Common.{◌∙◌, le_refl, add-zero, arith}
use native.Mathlib.Nat.{sub_self}
use Rattle.residue.specs.Residue.{negative-sum}
use Rattle.remainder.proofs.by_multiplication.Goals as goal

pub to_50_bits-r-requires : goal.to_50_bits-r-requires
to_50_bits-r-requires c =
    rw c.wide-m.ensures (c.requires.0, c.requires.1, c.requires.2, c.requires.3)

pub to_twice-requires : goal.to_twice-requires
to_twice-requires c =
    (rw c.wide-m.ensures c.requires.0, rw c.wide-m.ensures c.requires.1, c.to_50_bits-r.ensures.0)

pub overflow_cast-to_twice : goal.overflow_cast-to_twice
overflow_cast-to_twice c =
    omega (arith, c.requires.0.most, c.to_twice.ensures.0, c.wide-m.ensures)

pub difference-requires : goal.difference-requires
difference-requires c =
    (omega (arith, c.to_twice.ensures.0, c.wide-m.ensures), le_refl _)

pub returns : goal.returns
returns c =
    c.difference.ensures
    ∙ negative-sum (le_refl _) _
    ∙ rw (sub_self, add-zero)
    (rw c.wide-m.ensures at (c.to_twice.ensures.1 ∙ c.to_50_bits-r.ensures.1))
