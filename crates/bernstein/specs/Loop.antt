-- The parts from the top one down, on the lists that the work buffer holds: what holds when part j is joined and those below it are not.
--
--   remaining p n m j   the weight that is still to come: a product for each part below j, and their own weights
--   room-powers         where h is written
--   Prepared            h stands at the beginning of the rest
--   prepared-first      after it was written
--   prepared_ready      the value of a part can be computed
--   PartsJoined         what holds when part j is joined, of the list at the beginning, the list now and the weight so far
--   parts_first         after the top part
--   parts_rebased level_rebased   the same, from a later list on, and a level that was done from there on
--   parts-room          there is room for the join
--   parts_turn          after one part more
--   parts-small         the weight of one part more fits 63 bits
--   parts_level         after all of them
-- Assumes nothing.
use Rattle.std.specs.Prelude.{ℕ, suc, ◌+◌, ◌*◌, ◌-◌, ◌^◌, ◌<◌, ◌≤◌, min, ◌≡◌, List, length}
use Rattle.std.proofs.Common.{suc-mul, arith, inl, inr, sym, ap, ◌∙◌}
use Rattle.std.proofs.lemmas.List.Edits.{sets}
use Rattle.bernstein.specs.Join.{room-length, moved_within, moved_value}
use Rattle.bernstein.specs.Level.{Joined, Level, PartReady, PartValue, Room, next_at, rest_at}
use Rattle.bernstein.specs.Split.{composed_part, joined_from, joined_top, joined-next, joined_all}
use Rattle.bernstein.specs.Weights.{weight_of_part, weight-parts, weight-small}
use Rattle.buffer.specs.Written.{length_part}
use Rattle.definition.specs.Bernstein.{pth_powers, spread_list}
use Rattle.definition.specs.Lists.{sum, ceil_div}
use Rattle.definition.specs.Prime.{Prime}
use Rattle.definition.specs.Weight.{bernstein_weight}
use Rattle.parts.specs.Counts.{ceil_div-half}
use Rattle.parts.specs.Steps.{length-powers}
use Rattle.buffer.specs.Segments.{segment, Apart}
use Rattle.buffer.specs.Within.{Within, within_refl, within_trans, within_wider, within-sets, segment-within, segment-sets}

abbrev pub remaining : ℕ → ℕ → ℕ → ℕ → ℕ
remaining p n m j = j * n + sum j (weight_of_part p n m)

remaining-next : (p n m j : ℕ) → remaining p n m (suc j) ≡ remaining p n m j + n + weight_of_part p n m j
unfolding sum
remaining-next p n m j = omega (arith, suc-mul j n)

sum_last : (f : ℕ → ℕ) {j q : ℕ} → suc j ≡ q → sum q f ≡ sum j f + f j
unfolding sum
sum_last f e = rw (← e)

remaining-none : (p n m : ℕ) → remaining p n m 0 ≡ 0
unfolding sum
remaining-none p n m = omega arith

-- h stands at the beginning of the rest, and g and f are as they were
pub record Prepared (p n m : ℕ) (before now : List ℕ) : Type 0 where
  pub room : Room p n m before
  pub several : 1 < m
  pub within : Within (n + m) (5 * (n + m)) before now
  pub powers : segment now (rest_at n m) (ceil_div n p) ≡ pth_powers p (segment before 0 (ceil_div n p))

module _ {p n m : ℕ} {before : List ℕ} (room : Room p n m before) where
  half : 2 * ceil_div n p ≤ n + 1
  half = ceil_div-half room.prime.above-one n

  pub room-powers : Apart before 0 (ceil_div n p) (rest_at n m) (ceil_div n p)
  room-powers = record { source = omega (arith, half); target = omega (arith, half); apart = inl (omega (arith, half)) }

  abbrev h : List ℕ
  h = pth_powers p (segment before 0 (ceil_div n p))

  length-h : length h ≡ ceil_div n p
  length-h = length-powers p _ ∙ length_part before 0 (ceil_div n p) room-powers.source

  pub prepared-first : {now : List ℕ} → 1 < m → now ≡ sets before (rest_at n m) h → Prepared p n m before now
  prepared-first several written = record {
    room = room;
    several = several;
    within = rw written (within-sets before (rest_at n m) h (omega arith) (omega (arith, length-h, half)));
    powers = rw written (segment-sets before (rest_at n m) h (ceil_div n p) length-h room-powers.target);
  }

module _ {p n m : ℕ} {before now : List ℕ} (prepared : Prepared p n m before now) where
  kept : (a k : ℕ) → a + k ≤ n + m → segment now a k ≡ segment before a k
  kept a k b = segment-within prepared.within a k (inl b)

  pub prepared_ready : (j : ℕ) → j < m → PartReady p n m j now
  prepared_ready j b = record {
    room = room-length prepared.within.size prepared.room;
    several = prepared.several;
    index = b;
    powers = prepared.powers ∙ ap (pth_powers p) (sym (kept 0 (ceil_div n p) (omega (arith, half prepared.room))));
  }

  pub level_rebased : {after : List ℕ} {weight : ℕ} → Level p n m now after weight → Level p n m before after weight
  level_rebased level = record {
    within = within_trans prepared.within level.within;
    value = level.value ∙ rw (kept n m (omega arith), kept 0 n (omega arith));
    sum = level.sum;
  }

  -- the value and the next part's value are written
  prepared_moved : {after : List ℕ} → Within (n + m) (n + n) now after → Prepared p n m before after
  prepared_moved within = record {
    room = prepared.room;
    several = prepared.several;
    within = within_trans prepared.within (within_wider (omega arith) (omega arith) within);
    powers = segment-within within (rest_at n m) (ceil_div n p) (inr (omega arith)) ∙ prepared.powers;
  }

  module _ {j weight : ℕ} {after : List ℕ} (part : PartValue p n m j now after weight) where
    prepared-part : Prepared p n m before after
    prepared-part = record {
      room = prepared.room;
      several = prepared.several;
      within = within_trans prepared.within (within_wider (omega arith) (omega arith) part.within);
      powers = part.powers ∙ prepared.powers;
    }

    prepared-next : segment after (next_at n m) n ≡ spread_list p n (composed_part p n (segment before n m) (segment before 0 n) j)
    prepared-next = part.next ∙ rw (kept n m (omega arith), kept 0 n (omega arith))

pub record PartsJoined (p n m : ℕ) (before : List ℕ) (j : ℕ) (now : List ℕ) (weight : ℕ) : Type 0 where
  pub prepared : Prepared p n m before now
  pub index : j < min p m
  pub value : (P : Prime p) → segment now (n + m) n ≡ joined_from P n (segment before n m) (segment before 0 n) j
  pub sum : weight + remaining p n m j ≡ bernstein_weight p n m

length-outer : {p n m : ℕ} {before : List ℕ} → Room p n m before → length (segment before n m) ≡ m
length-outer {p} {n} {m} {before} room = length_part before n m (omega arith)

pub parts_first : {p n m j : ℕ} {before now then after : List ℕ} {weight : ℕ} → Prepared p n m before now → j ≡ min p m - 1
    → PartValue p n m j now then weight → after ≡ sets then (n + m) (segment then (next_at n m) n) → PartsJoined p n m before j after weight
parts_first {p} {n} {m} {j} {before} {then = then} prepared top part moved =
    let next = prepared-part prepared part in
    let room : Room p n m then = room-length next.within.size next.room in
    let above = prepared.room.prime.above-one in
    let last : suc j ≡ min p m = omega (arith, prepared.several) in
    record {
      prepared = prepared_moved next (moved_within room moved);
      index = omega arith;
      value = λ P.
          moved_value room moved
          ∙ prepared-next prepared part
          ∙ joined_top P n (segment before n m) (segment before 0 n) j (rw (length-outer prepared.room) last);
      sum = omega (arith, rw (← top) at (weight-parts above n m prepared.several), part.sum, sum_last (weight_of_part p n m) last);
    }

module _ {p n m j : ℕ} {before now : List ℕ} {weight : ℕ} (done : PartsJoined p n m before j now weight) where
  module _ {i : ℕ} (down : suc i ≡ j) where
    parts-weight : weight + weight_of_part p n m i + n + remaining p n m i ≡ bernstein_weight p n m
    parts-weight = omega (arith, rw (← down) at done.sum, remaining-next p n m i)

    pub parts-small : weight + weight_of_part p n m i + n < 2 ^ 63
    parts-small =
        let room = done.prepared.room in
        omega (arith, parts-weight, weight-small room.prime.above-one n m room.order room.outer)

    pub parts_turn : {then after : List ℕ} {a b : ℕ} → PartValue p n m i now then a → Joined p n m then after b
        → PartsJoined p n m before i after (weight + a + b)
    parts_turn part join =
        let next = prepared-part done.prepared part in
        record {
          prepared = prepared_moved next join.within;
          index = omega (arith, done.index);
          value = λ P.
              join.value
              ∙ rw (
                prepared-next done.prepared part,
                segment-within part.within (n + m) n (inl (omega arith)),
                done.value P,
                kept next 0 n (omega arith),
                ← down,
              )
              (joined-next P n (segment before n m) (segment before 0 n) i
              (rw (length-outer done.prepared.room) (omega (arith, done.index))));
          sum = rw (part.sum, join.places) parts-weight;
        }

  pub parts_rebased : PartsJoined p n m now j now weight
  parts_rebased =
      let ready = prepared_ready done.prepared j (omega (arith, done.index)) in
      record {
        prepared = record { room = ready.room; several = ready.several; within = within_refl (n + m) (5 * (n + m)) now; powers = ready.powers };
        index = done.index;
        value = λ P. done.value P ∙ rw (kept done.prepared n m (omega arith), kept done.prepared 0 n (omega arith));
        sum = done.sum;
      }

  pub parts-room : {i a : ℕ} {then : List ℕ} → PartValue p n m i now then a → Room p n m then
  parts-room part = let next = prepared-part done.prepared part in room-length next.within.size next.room

  pub parts_level : j ≡ 0 → Level p n m before now weight
  parts_level e =
      let P = done.prepared.room.prime in
      record {
        within = done.prepared.within;
        value = done.value P ∙ rw e (joined_all P n (segment before n m) (segment before 0 n));
        sum = omega (arith, rw e at done.sum, remaining-none p n m);
      }
