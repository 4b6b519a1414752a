-- The contracts of route 3. A level works on a list w: g at place 0, f at n, the value at n + m, the next part's value at n + m + n; the rest
-- from n + m + n + n on is lent to the next level.
--
--   next_at rest_at     where the next part's value and the rest begin
--   Room              what a level requires
--   Level             what a level ensures
--   PartReady         what `part_value` requires: h stands at the beginning of the rest
--   PartValue         what `part_value` ensures
--   Joined            the contract of `join`
--   level_constant    a level with at most one place of f
--   level_put         f is put behind the places of g, and then a level done
-- Assumes nothing.
use Rattle.std.specs.Prelude.{ℕ, ◌+◌, ◌*◌, ◌<◌, ◌≤◌, ◌≡◌, List, length}
use Rattle.std.proofs.Common.{arith, inl, sym, ◌∙◌}
use Rattle.std.proofs.lemmas.List.Edits.{sets}
use Rattle.algebra.specs.Composition.{length-composed}
use Rattle.algebra.specs.Lists.{length-tabulate, tabulate-coefficient}
use Rattle.bernstein.specs.Split.{composed_part}
use Rattle.bernstein.specs.Weights.{weight-low}
use Rattle.definition.specs.Bernstein.{part_count, pth_powers, spread_list}
use Rattle.definition.specs.Lists.{ceil_div, coefficient, tabulate}
use Rattle.definition.specs.Prime.{Prime}
use Rattle.definition.specs.Ranged.{joined}
use Rattle.definition.specs.Refusal.{limit}
use Rattle.definition.specs.Substitution.{composed}
use Rattle.definition.specs.Weight.{bernstein_weight}
use Rattle.buffer.specs.Segments.{segment}
use Rattle.route.specs.Table.{written-table}
use Rattle.buffer.specs.Within.{Within, within_trans, within_wider, within-sets, segment-within, segment-sets}

abbrev pub next_at : ℕ → ℕ → ℕ
next_at n m = n + m + n

abbrev pub rest_at : ℕ → ℕ → ℕ
rest_at n m = n + m + n + n

pub record Room (p n m : ℕ) (w : List ℕ) : Type 0 where
  pub prime : Prime p
  pub positive : 0 < n
  pub order : n ≤ limit
  pub outer : m ≤ limit
  pub room : 6 * (n + m) ≤ length w

pub record Level (p n m : ℕ) (before after : List ℕ) (result : ℕ) : Type 0 where
  pub within : Within (n + m) (5 * (n + m)) before after
  pub value : segment after (n + m) n ≡ composed p n (segment before n m) (segment before 0 n)
  pub sum : result ≡ bernstein_weight p n m

pub record PartReady (p n m j : ℕ) (w : List ℕ) : Type 0 where
  pub room : Room p n m w
  pub several : 1 < m
  pub index : j < m
  pub powers : segment w (rest_at n m) (ceil_div n p) ≡ pth_powers p (segment w 0 (ceil_div n p))

pub record PartValue (p n m j : ℕ) (before after : List ℕ) (result : ℕ) : Type 0 where
  pub within : Within (next_at n m) (4 * n + 5 * m) before after
  pub powers : segment after (rest_at n m) (ceil_div n p) ≡ segment before (rest_at n m) (ceil_div n p)
  pub next : segment after (next_at n m) n ≡ spread_list p n (composed_part p n (segment before n m) (segment before 0 n) j)
  pub sum : result ≡ bernstein_weight p (ceil_div n p) (part_count p j m)

pub record Joined (p n m : ℕ) (before after : List ℕ) (result : ℕ) : Type 0 where
  pub within : Within (n + m) (n + n) before after
  pub value : segment after (n + m) n ≡ joined p n (segment before (next_at n m) n) (segment before (n + m) n) (segment before 0 n)
  pub places : result ≡ n

pub level_constant : {p n m : ℕ} {before after : List ℕ} → Room p n m before → m ≤ 1
    → after ≡ sets before (n + m) (composed p n (segment before n m) (segment before 0 n)) → Level p n m before after 0
level_constant {p} {n} {m} {before} room low written =
    let value = composed p n (segment before n m) (segment before 0 n) in
    let size : length value ≡ n = length-composed p n (segment before n m) (segment before 0 n) in
    record {
      within = rw written (within-sets before (n + m) value (omega arith) (omega arith));
      value = rw written (segment-sets before (n + m) value n size (omega arith));
      sum = sym (weight-low p n m low);
    }

pub level_put : {p n : ℕ} (f : List ℕ) {v u after : List ℕ} {weight : ℕ} → n + length f ≤ length v
    → u ≡ sets v n (tabulate (length f) (coefficient f)) → Level p n (length f) u after weight
    → (Within n (5 * n + 6 * length f) v after) × (segment after (n + length f) n ≡ composed p n f (segment v 0 n))
level_put {p} {n} f {v} {u} fits put level =
    let written : Within n (length f) v u =
    rw put (within-sets v n (tabulate (length f) (coefficient f)) (omega arith) (omega (arith, length-tabulate (length f) (coefficient f)))) in
    let outer : segment u n (length f) ≡ f = rw put (written-table v n (coefficient f) (length f) fits ∙ tabulate-coefficient f) in (
      within_trans (within_wider (omega arith) (omega arith) written) (within_wider (omega arith) (omega arith) level.within),
      level.value ∙ rw (outer, segment-within written 0 n (inl (omega arith))),
    )
