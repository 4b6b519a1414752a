-- The value of a part, on the lists that the work buffer holds: the part is written behind h in the rest, the rest is lent to the next level, and
-- the value is spread into the place of the next part's value.
--
--   room-part            where the part is written
--   rest-fits            the next level ends inside the places of this one
--   fewer                the part has fewer places than f
--   room-rest            the rest has room for the next level
--   room-spread          where the value is spread
--   part-value-written   what `part_value` ensures, from what its steps do
-- Assumes nothing.
use Rattle.std.specs.Prelude.{ℕ, ◌+◌, ◌*◌, ◌-◌, ◌<◌, ◌≤◌, ◌≡◌, List, ◌++◌, length, take, drop}
use Rattle.std.proofs.Common.{add_assoc, arith, inl, inr, sym, ap, ◌∙◌, length-drop, drop-drop}
use Rattle.std.proofs.lemmas.List.Edits.{sets}
use Rattle.bernstein.specs.Level.{Level, PartReady, PartValue, Room, next_at, rest_at}
use Rattle.bernstein.specs.Split.{composed_part}
use Rattle.definition.specs.Bernstein.{part, pth_powers, spread_list}
use Rattle.definition.specs.Lists.{ceil_div}
use Rattle.parts.specs.Counts.{ceil_div-half, ceil_div-positive, part_count-half}
use Rattle.parts.specs.Steps.{Parted, parted_length, length-spread}
use Rattle.buffer.specs.Segments.{segment, Apart, segment-segment}
use Rattle.buffer.specs.Within.{Within, rest_back, rest-lent, within_trans, within_wider, within-sets, within-rest, segment-within, segment-sets, segment-rest}

module _ {p n m j order : ℕ} {w : List ℕ} (ready : PartReady p n m j w) (rounded : order ≡ ceil_div n p) where
  half-order : 2 * order ≤ n + 1
  half-order = rw rounded (ceil_div-half ready.room.prime.above-one n)

  pub room-part : Apart w n m (rest_at n m + order) m
  room-part = record { source = omega arith; target = omega (arith, half-order); apart = inl (omega arith) }

  module _ {v : List ℕ} {count : ℕ} (parted : Parted p j n m (rest_at n m + order) w v count) where
    half_count : 2 * count ≤ m + 1
    half_count = rw parted.count (part_count-half ready.room.prime.above-one m j)

    pub rest-fits : rest_at n m + 6 * (order + count) ≤ 6 * (n + m)
    rest-fits = omega (arith, half-order, half_count, ready.several)

    pub fewer : count < m
    fewer = omega (arith, half_count, ready.several)

    abbrev f : List ℕ
    f = segment w n m

    length_of_part : length (part p j f) ≡ count
    length_of_part = parted_length room-part.source parted

    part-within : Within (rest_at n m + order) count w v
    part-within =
        rw parted.written (within-sets w (rest_at n m + order) (part p j f) (omega arith) (omega (arith, length_of_part)))

    -- the rest as it is lent, from its first place to the last
    abbrev lent : List ℕ
    lent = take (length v - rest_at n m) (drop (rest_at n m) v)

    pub room-rest : Room p order count lent
    room-rest = record {
      prime = ready.room.prime;
      positive = rw rounded (ceil_div-positive ready.room.prime.above-one n ready.room.positive);
      order = omega (arith, half-order);
      outer = omega (arith, half_count);
      room = rw (rest-lent, length-drop, part-within.size) (omega (arith, rest-fits));
    }

    -- what the next level is given: the part, and h
    given_part : segment lent order count ≡ part p j f
    given_part =
        rw (rest-lent, drop-drop, parted.written)
        (segment-sets w (rest_at n m + order) (part p j f) count length_of_part (omega (arith, rest-fits)))

    given_powers : segment lent 0 order ≡ pth_powers p (take order (segment w 0 n))
    given_powers =
        ap (take order) (rest-lent (rest_at n m) v)
        ∙ segment-within part-within (rest_at n m) order (inl (omega arith))
        ∙ (rw (← rounded) at ready.powers)
        ∙ ap (pth_powers p) (sym (segment-segment w 0 n 0 order (omega (arith, half-order))))

    module _ {rest : List ℕ} {weight : ℕ} (below : Level p order count lent rest weight) where
      -- the list when the rest has come back
      abbrev back : List ℕ
      back = take (rest_at n m) v ++ (rest ++ drop (length v - rest_at n m) (drop (rest_at n m) v))

      rest-within : Within (rest_at n m + (order + count)) (5 * (order + count)) v back
      rest-within =
          rw rest_back (within-rest (rest_at n m) v rest (omega (arith, part-within.size)) (rw rest-lent at below.within))

      pub room-spread : Apart back (rest_at n m + order + count) order (next_at n m) n
      room-spread = record {
        source = omega (arith, rest-fits, rest-within.size, part-within.size);
        target = omega (arith, rest-within.size, part-within.size);
        apart = inr (omega arith);
      }

      value : segment back (rest_at n m + order + count) order ≡ composed_part p n f (segment w 0 n) j
      value =
          rw (rest_back, add_assoc) (segment-rest (rest_at n m) v rest (order + count) order (omega (arith, part-within.size)))
          ∙ below.value
          ∙ rw (given_part, given_powers, rounded)

      abbrev spread-value : List ℕ
      spread-value = spread_list p n (segment back (rest_at n m + order + count) order)

      pub part-value-written : {after : List ℕ} → after ≡ sets back (next_at n m) spread-value → PartValue p n m j w after weight
      part-value-written {after} spread_out = record {
        within =
            within_trans (within_wider (omega arith) (omega (arith, rest-fits)) part-within)
            (within_trans (within_wider (omega arith) (omega (arith, rest-fits)) rest-within)
            (within_wider (omega arith) (omega arith) out));
        powers =
            rw (← rounded)
            (segment-within out (rest_at n m) order (inr (omega arith))
            ∙ segment-within rest-within (rest_at n m) order (inl (omega arith))
            ∙ segment-within part-within (rest_at n m) order (inl (omega arith)));
        next =
            rw spread_out (segment-sets back (next_at n m) spread-value n size_out room-spread.target)
            ∙ ap (spread_list p n) value;
        sum = below.sum ∙ rw (rounded, parted.count);
      }
        where
          size_out : length spread-value ≡ n
          size_out = length-spread p n (segment back (rest_at n m + order + count) order)

          out : Within (next_at n m) n back after
          out = rw spread_out (within-sets back (next_at n m) spread-value (omega arith) (omega (arith, size_out)))
