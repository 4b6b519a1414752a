-- `residue::difference` meets its contract. Assumes nothing.
use Rattle.std.proofs.Common.{◌<◌, ◌≤◌, inl, inr, rules}
use Rattle.residue.specs.Residue.{wrapped_difference}
use Rattle.residue.proofs.difference.Goals as goal
use Rattle.residue.proofs.difference.Goals.{then-a-b, else-a-b}

pub returns : goal.returns
returns c =
    wrapped_difference
    c.requires.0
    c.requires.1
    (λ (h : c.args.a < c.args.b). h)
    (λ (h : c.args.b ≤ c.args.a). h)
    c.ranges.p.fits
    (search rules)
    c.wrapping_sub_u32.ensures.value
    c.wrapping_add_u32.ensures.value
    (elim c.if-a-b.branch [ then-a-b w ↦ inl (w.if-a-b.true, w.more-is) | else-a-b w ↦ inr (w.if-a-b.false, w.more-is) ])
