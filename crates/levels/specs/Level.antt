-- A level of route 4 on one list.
--
--   LevelLent    what `level` requires
--   Levelled     its contract: the result of the levels stands behind Q, which is kept
--   order-1      at the last level the order is 1
--   last_room last_level     the last level
--   level_bounded level_parts level_next level_again   what the layout of a level, its first half, the next level and its second half
--                require
--   done         from what they ensure, what the level ensures, where the rest has not come back
-- Assumes nothing.
use Prim.Native.Nat.{ℕ, suc, ◌+◌, ◌-◌, ◌*◌, ◌^◌, ◌<◌, ◌≤◌}
use Rattle.std.proofs.Math.Nat.{add-mul, mul-add, mul_assoc, mul_comm, mul-le-mul_left, mul-le-mul_right, mul-one, one-mul}
use Rattle.std.proofs.Common.{pow-suc, inl, ◌∙◌, take_all}
use Rattle.std.proofs.Math.Numerals.{add-one}
use native.Mathlib.Omega.{arith}
use mathlib.Core.List.{List, ◌++◌}
use Rattle.std.specs.Prelude.{◌≡◌, refl, length, take, drop}
use Rattle.std.proofs.Math.Path.{sym, ap}
use Rattle.std.proofs.Math.ListN.{length-drop}
use Rattle.std.proofs.lemmas.List.{length-reverse}
use Rattle.std.proofs.lemmas.List.Edits.{sets}
use Rattle.std.proofs.Math.Seq.{length-sets}
use Rattle.algebra.specs.KinoshitaLiLists.{graeffe-list, levels-list}
use Rattle.buffer.specs.Written.{length_part}
use Rattle.definition.specs.KinoshitaLi.{numerator, opposite, plane, plane_at, quotient, window}
use Rattle.definition.specs.Lists.{ceil_div, coefficient}
use Rattle.definition.specs.Refusal.{limit}
use Rattle.definition.specs.Weight.{degree_bound, kinoshita_li_levels}
use Rattle.product.specs.Planes.{held}
use Rattle.buffer.specs.Segments.{segment, segment-segment}
use Rattle.product.specs.declared.Rows.{Rows}
use Rattle.buffer.specs.Within.{Within, rest_back, rest-lent, within-rest, within-sets, within_trans, within_wider, segment-rest, segment-sets, segment-within}
use Rattle.division.specs.Quotient.{Divided, length-quotient}
use Rattle.bivariate.specs.Exact.{plane_at-column, window-segment}
use Rattle.levels.specs.Graeffe.{Expanded, Graeffe, Parts, parts-length}
use Rattle.levels.specs.Layout.{Bounded, layout_of}
use Rattle.levels.specs.Space.{level_places, level_rows}
use Rattle.levels.specs.declared.Layout.{Layout}

pub record LevelLent (p levels r q d : ℕ) (f w : List ℕ) : Type 0 where
  pub modulus : 0 < p
  pub positive : 0 < r
  pub order : r ≤ limit
  pub halvings : r ≤ 2 ^ levels
  pub outer : length f ≤ limit
  pub degree : q < length f
  pub low : d < length f
  pub kept : length f ≤ d + (q + 1)
  pub steep : q * 2 ^ levels ≤ limit
  pub work : level_places levels (length f) r q d ≤ length w

pub record Levelled (p levels r q d : ℕ) (f before after : List ℕ) (result : ℕ) : Type 0 where
  pub rows : segment after ((q + 1) * r) ((length f - d) * r) ≡ levels-list p f levels r q d (segment before 0 ((q + 1) * r))
  pub within : Within ((q + 1) * r) (length before - (q + 1) * r) before after
  pub sum : result ≡ kinoshita_li_levels levels (length f) r q d
  pub fits : result ≤ length before

pub order-1 : {p levels r q d : ℕ} {f w : List ℕ} → LevelLent p levels r q d f w → levels ≡ 0 → r ≡ 1
order-1 lent last = omega (arith, lent.positive, rw last at lent.halvings)

module _ {p q d : ℕ} {f w : List ℕ} (lent : LevelLent p 0 1 q d f w) where
  abbrev m : ℕ
  m = length f

  pub last_room : q + 1 + 4 * m ≤ length w
  unfolding level_places
  last_room = omega (arith, lent.work)

  abbrev w₁ : List ℕ
  w₁ = sets w (q + 1) (numerator f)

  -- the quotient stands behind Q, in rows of one place
  abbrev quotient_rows : Rows
  quotient_rows = record { at = q + 1; count = m }

  pub last_level : {v : List ℕ} → Divided p m (q + 1) w₁ v
      → Levelled p 0 1 q d f w (sets v (q + 1) (plane 1 (m - d) (window d (held 1 v quotient_rows)))) 0
  unfolding levels-list kinoshita_li_levels numerator
  last_level {v} done = record {
    rows =
        rw (mul-one, mul-one, kept)
        (segment-sets v (q + 1) (segment v (q + 1 + d) (m - d)) (m - d) size (omega (arith, done.within.size, size-w₁, last_room))
        ∙ sym (segment-segment v (q + 1) m d (m - d) (omega (arith, lent.low)))
        ∙ rw (done.quotient, divided, denominator, plane_at-column (segment w 0 (q + 1)))
        (take_all (m - d) (drop d U) (rw (length-drop, length-quotient) (omega arith))));
    within =
        rw (mul-one, kept)
        (within_trans (within_wider (omega arith) (omega (arith, last_room)) first)
        (within_trans (within_wider (omega arith) (omega (arith, last_room)) done.within)
        (within-sets v (q + 1) (segment v (q + 1 + d) (m - d)) (omega arith) (omega (arith, size, last_room)))));
    sum = refl;
    fits = omega arith;
  }
    where
      U : List ℕ
      U = quotient p m (coefficient (numerator f)) (coefficient (segment w 0 (q + 1)))

      size-w₁ : length w₁ ≡ length w
      size-w₁ = length-sets w (q + 1) (numerator f)

      kept : plane 1 (m - d) (window d (held 1 v quotient_rows)) ≡ segment v (q + 1 + d) (m - d)
      kept =
          window-segment 1 v quotient_rows d (omega (arith, lent.low))
          (rw mul-one (omega (arith, done.within.size, size-w₁, last_room)))
          ∙ rw (mul-one, mul-one)

      size : length (segment v (q + 1 + d) (m - d)) ≡ m - d
      size = length_part v (q + 1 + d) (m - d) (omega (arith, done.within.size, size-w₁, last_room, lent.low))

      first : Within (q + 1) m w w₁
      first = within-sets w (q + 1) (numerator f) (omega arith) (rw length-reverse (omega arith))

      divided : segment w₁ (q + 1) m ≡ numerator f
      divided = segment-sets w (q + 1) (numerator f) m (length-reverse f) (omega (arith, last_room))

      denominator : segment w₁ 0 (q + 1) ≡ segment w 0 (q + 1)
      denominator = segment-within first 0 (q + 1) (inl (omega arith))

module _ {p levels K r q d : ℕ} {f w : List ℕ} (lent : LevelLent p levels r q d f w) (deeper : levels ≡ suc K) where
  abbrev s : Layout
  s = layout_of r q d (length f)

  level_work : s.rest + level_places K (length f) s.half s.next s.low ≤ length w
  unfolding layout_of level_places
  level_work = rw deeper at lent.work

  half-small : s.half ≤ 2 ^ K
  unfolding layout_of ceil_div
  half-small = omega (arith, rw (deeper, pow-suc) at lent.halvings)

  few : s.below.count ≤ s.product.count
  unfolding layout_of degree_bound
  few = omega (arith, lent)

  level_room : s.below.at + s.below.count * s.half ≤ length w
  unfolding layout_of
  level_room = omega (arith, level_work, level_rows K (length f) s.half s.next s.low half-small)

  size : (q + 1) * ceil_div r 2 ≤ 4096
  unfolding layout_of ceil_div
  size =
      let here : q * (2 ^ K * 2) ≤ 4096 = rw (deeper, pow-suc) at lent.steep in
      let less : q * ceil_div r 2 ≤ q * 2 ^ K = mul-le-mul_left q half-small in
      let short : ceil_div r 2 ≤ 2048 = omega (arith, lent.order) in
      omega (arith, here, less, short, add-mul q 1 (ceil_div r 2), one-mul (ceil_div r 2), mul_assoc q (2 ^ K) 2)

  parts : Parts p r s w
  unfolding layout_of degree_bound
  parts = record {
    modulus = lent.modulus;
    positive = lent.positive;
    order = omega (arith, lent);
    half = refl;
    some = omega arith;
    size = size;
    doubled = omega (arith, lent);
    results = omega (arith, lent);
    some_below = omega (arith, lent);
    doubled-below = omega (arith, lent);
    window = omega (arith, lent);
    few = mul-le-mul_right r few;
    denominator = omega arith;
    result = omega arith;
    opposite = omega arith;
    product = omega arith;
    next = omega arith;
    below = level_room;
  }

  pub level_bounded : length w < 2 ^ 64 → Bounded r q d (length f)
  level_bounded fits = record {
    order = lent.order;
    outer = lent.outer;
    degree = lent.degree;
    low = lent.low;
    places = omega (arith, level_room);
  }

  steep : degree_bound (length f) q * 2 ^ K ≤ limit
  unfolding degree_bound
  steep =
      let here : q * (2 ^ K * 2) ≤ 4096 = rw (deeper, pow-suc) at lent.steep in
      let less : degree_bound (length f) q * 2 ^ K ≤ 2 * q * 2 ^ K = mul-le-mul_right (2 ^ K) (omega arith) in
      omega (arith, here, less, mul_assoc 2 q (2 ^ K), mul_assoc q (2 ^ K) 2)

  next : (v : List ℕ) → length v ≡ length w → LevelLent p K s.half s.next s.low f (drop s.rest v)
  unfolding layout_of ceil_div degree_bound
  next v size = record {
    modulus = lent.modulus;
    positive = omega (arith, lent);
    order = omega (arith, lent);
    halvings = half-small;
    outer = lent.outer;
    degree = omega (arith, lent);
    low = omega (arith, lent);
    kept = omega (arith, lent);
    steep = steep;
    work = rw (length-drop, size) (omega (arith, level_work));
  }

  module _ {v rest : List ℕ} {s₁ s₂ : ℕ} (down : Graeffe p r s w v s₁)
      (below : Levelled p K s.half s.next s.low f (drop s.rest v) rest s₂) where
    abbrev Q : List ℕ
    Q = segment w 0 ((q + 1) * r)

    abbrev y : List ℕ
    y = take s.rest v ++ rest

    size_v : length v ≡ length w
    size_v = down.within.size

    behind : Within (s.rest + (s.next + 1) * s.half) (length (drop s.rest v) - (s.next + 1) * s.half) v y
    behind = within-rest s.rest v rest (omega (arith, level_work, size_v)) below.within

    factor : held r y s.opposite ≡ opposite p (plane_at r Q)
    unfolding layout_of
    factor = ap (plane_at r) (segment-within behind s.opposite.at (s.opposite.count * r) (inl (omega arith))) ∙ down.opposed

    half-denominator : segment v s.rest ((s.next + 1) * s.half) ≡ graeffe-list p (length f) r q Q
    unfolding layout_of graeffe-list
    half-denominator = down.even ∙ rw add-one

    half-result : held s.half y s.below
        ≡ plane_at s.half (levels-list p f K s.half s.next s.low (graeffe-list p (length f) r q Q))
    unfolding layout_of
    half-result =
        ap (plane_at s.half)
        (segment-rest s.rest v rest ((s.next + 1) * s.half) (s.below.count * s.half) (omega (arith, level_work, size_v))
        ∙ below.rows
        ∙ ap (levels-list p f K s.half s.next s.low) half-denominator)

    again : Parts p r s y
    again = parts-length (behind.size ∙ size_v) parts

    pub done : {z : List ℕ} {s₃ : ℕ} → Expanded p r s y z s₃ → Levelled p levels r q d f w z (s₁ + s₂ + s₃)
    unfolding layout_of levels-list kinoshita_li_levels
    done up = record {
      rows = up.rows ∙ rw (half-result, factor, deeper);
      within =
          within_trans (within_wider (omega arith) (omega (arith, level_work)) down.within)
          (within_trans (within_wider (omega arith) (omega (arith, level_room, size_v, length-drop s.rest v)) behind)
          (within_wider (omega arith) (omega (arith, level_work, size_v, behind.size)) up.within));
      sum =
          rw (down.sum, below.sum, up.sum, deeper)
          (omega (arith, mul-add r (degree_bound (length f) q + 1) (length f - d)));
      fits =
          omega (
            arith,
            level_work,
            size_v,
            length-drop s.rest v,
            down.sum,
            below.fits,
            up.sum,
            mul_comm r (s.next + 1),
            mul_comm r (length f - d),
          );
    }

module _ {p levels K r q d : ℕ} {f w : List ℕ} {s : Layout} (lent : LevelLent p levels r q d f w) (deeper : levels ≡ suc K)
    (placed : s ≡ layout_of r q d (length f)) where
  pub level_parts : Parts p r s w
  level_parts = rw placed (parts lent deeper)

  pub level_next : (v : List ℕ) → length v ≡ length w
      → LevelLent p K s.half s.next s.low f (segment v s.rest (length v - s.rest))
  level_next v size = rw (rest-lent, placed) (next lent deeper v size)

  module _ {v rest : List ℕ} {s₁ s₂ : ℕ} (down : Graeffe p r s w v s₁)
      (below : Levelled p K s.half s.next s.low f (segment v s.rest (length v - s.rest)) rest s₂) where
    -- the list when the rest has come back
    abbrev back : List ℕ
    back = take s.rest v ++ (rest ++ drop (length v - s.rest) (drop s.rest v))

    pub level_again : Parts p r s back
    level_again = rw (rest_back, placed) (again lent deeper (rw placed at down) (rw (rest-lent, placed) at below))
