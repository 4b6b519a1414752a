-- `rows::four_products` meets its contract. Assumes nothing.
use Rattle.std.proofs.Common.{◌^◌, ◌<◌, refl, ◌∙◌, rules}
use Rattle.rows.specs.Rows.{total_four}
use Rattle.rows.proofs.four_products.Goals as goal
use Rattle.rows.proofs.four_products.Goals.{After-times-a, After-times-b, After-times-c, After-times-d}

whole : (c : After-times-a) → c.times-a.result < 2 ^ 64
whole c = search rules

whole2 : (c : After-times-b) → c.times-b.result < 2 ^ 64
whole2 c = search rules

whole3 : (c : After-times-c) → c.times-c.result < 2 ^ 64
whole3 c = search rules

whole4 : (c : After-times-d) → c.times-d.result < 2 ^ 64
whole4 c = search rules

pub returns : goal.returns
returns c =
    rw (← c.times-a.ensures, ← c.times-b.ensures, ← c.times-c.ensures, ← c.times-d.ensures)
    (total_four (whole (goal.at.returns c).After-times-a) (whole2 (goal.at.returns c).After-times-b) (whole3 (goal.at.returns c).After-times-c) (whole4 (goal.at.returns c).After-times-d)
    (c.wrapping_add_u64-3.ensures.value ∙ rw (c.wrapping_add_u64.ensures.value, c.wrapping_add_u64-2.ensures.value)) refl)
