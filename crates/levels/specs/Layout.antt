-- The parts of a level.
--
--   layout_of r q d m   the parts of a level with order r and bounds q and d, for m places of f
--   Bounded            what `arrange` requires
-- Assumes nothing.
use Rattle.std.specs.Prelude.{ℕ, ◌+◌, ◌-◌, ◌*◌, ◌^◌, ◌<◌, ◌≤◌}
use Rattle.definition.specs.Lists.{ceil_div}
use Rattle.definition.specs.Refusal.{limit}
use Rattle.definition.specs.Weight.{degree_bound}
use Rattle.levels.specs.declared.Layout.{Layout}

unfoldable pub layout_of : ℕ → ℕ → ℕ → ℕ → Layout
layout_of r q d m =
    let h = ceil_div r 2 in
    let next = degree_bound m q in
    let low = d - q in
    let product = (q + 1) * r + (m - d) * r + (q + 1) * r in
    let rest = product + (next + 1) * r in
    record {
      half = h;
      next = next;
      low = low;
      window = d - low;
      result = record { at = (q + 1) * r; count = m - d };
      opposite = record { at = (q + 1) * r + (m - d) * r; count = q + 1 };
      product = record { at = product; count = next + 1 };
      rest = rest;
      below = record { at = rest + (next + 1) * h; count = m - low };
    }

pub record Bounded (r q d m : ℕ) : Type 0 where
  pub order : r ≤ limit
  pub outer : m ≤ limit
  pub degree : q < m
  pub low : d < m
  pub places : (layout_of r q d m).below.at < 2 ^ 64
