-- `residue::reduced_sum` meets its contract: the remainders change nothing. Assumes nothing.
use Rattle.std.proofs.Common.{◌∙◌, mod-lt}
use native.Mathlib.Nat.{add-mod-mod, mod-add-mod}
use Rattle.residue.proofs.reduced_sum.Goals as goal

pub sum-requires : goal.sum-requires
sum-requires c =
    (rw c.reduced-c.ensures (mod-lt _ c.requires), rw c.reduced-d.ensures (mod-lt _ c.requires))

pub returns : goal.returns
returns c = c.sum.ensures ∙ rw (c.reduced-c.ensures, c.reduced-d.ensures, mod-add-mod, add-mod-mod)
