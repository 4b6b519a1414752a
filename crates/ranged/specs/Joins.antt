-- Spans of the outer list, composed at places of the work buffer, and the joins of two neighbours. The inner list g stands at place 0, its
-- powers g^(b 2^i) at place (i + 1) n.
--
--   SpanOperands p n b level j t f w   what `compose_span` requires: the powers for so many levels, and (level + 2) n places from t on
--   SpanPart                           the contract of `compose_span`
--   part-operands                      what Horner requires for the span of one block
--   part-span                          that block, composed by Horner, is a span of level 0
--   lower-operands                     one level down, from the same block on
--   span-passed                        a span that has no neighbour passes on
--   odd-operands                       one level down, from the block after the even span on
--   join_operands                      what their join requires
--   span-joined                        even + odd × G is the span one level up
--   predecessor                        a level above 0 is one above another
--   next_small                         the block after a span, and its place, fit a word
--   part_room                          there are 2 n places from t on
--   span_small                         the weight of a span fits a word
--   join_small                         so does that of a join
-- Assumes nothing.
use Rattle.std.specs.Prelude.{ℕ, suc, ◌+◌, ◌-◌, ◌*◌, ◌^◌, ◌<◌, ◌≤◌, List, ◌≡◌, length}
use Rattle.std.proofs.Common.{le_refl, le_trans, mul-le-mul, mul-le-mul_right, suc-mul, arith, inl, ap, ◌∙◌, pow_mono}
use Rattle.definition.specs.Ranged.{block}
use Rattle.definition.specs.Refusal.{limit, longest_block}
use Rattle.definition.specs.Substitution.{composed}
use Rattle.definition.specs.Weight.{horner_weight}
use Rattle.horner.specs.Part.{Part, PartOperands}
use Rattle.buffer.specs.Segments.{segment}
use Rattle.product.specs.Single.{Operands}
use Rattle.buffer.specs.Within.{Within, segment-within, within_trans, within_wider}
use Rattle.powers.specs.Kept.{Holds, holds-within, next_place}
use Rattle.powers.specs.Powers.{IsPower, joined-power}
use Rattle.ranged.specs.Neighbours.{Joined}
use Rattle.ranged.specs.Spans.{length-block, length-span, span, span_alone, span-block, span-composed, span-weight}

pub record SpanOperands (p n b level j t : ℕ) (f w : List ℕ) : Type 0 where
  pub modulus : 0 < p
  pub positive : 0 < n
  pub order : n ≤ limit
  pub outer : length f ≤ limit
  pub some : 0 < b
  pub short : b ≤ longest_block
  pub levels : level ≤ 12
  pub begins : b * j ≤ length f
  pub apart : (level + 1) * n ≤ t
  pub room : t + (level + 2) * n ≤ length w
  pub powers : Holds p n b (segment w 0 n) level w

pub record SpanPart (p n b level j t : ℕ) (f before after : List ℕ) (result : ℕ) : Type 0 where
  pub within : Within t ((level + 2) * n) before after
  pub value : segment after t n ≡ composed p n (span b level j f) (segment before 0 n)
  pub sum : result ≡ horner_weight n (length (span b level j f))

pub part-operands : {p n b j t : ℕ} {f w : List ℕ} → SpanOperands p n b 0 j t f w → PartOperands p n (block b j f) 0 t w
part-operands {b = b} {j} {f = f} pre = record {
  modulus = pre.modulus;
  positive = pre.positive;
  order = pre.order;
  outer = le_trans (length-block b f j) pre.outer;
  inner = record {
    source = omega (arith, pre.apart, pre.room);
    target = omega (arith, pre.room);
    apart = inl (omega (arith, pre.apart));
  };
}

pub part-span : {p n b j t : ℕ} {f u w : List ℕ} {r : ℕ} → Part p n (block b j f) 0 t u w r → SpanPart p n b 0 j t f u w r
part-span {b = b} {j} {f = f} part = record {
  within = part.within;
  value = rw (span-block b f j) part.value;
  sum = rw (span-block b f j) part.sum;
}

pub predecessor : (level : ℕ) → (level ≡ 0 → ⊥) → level ≡ suc (level - 1)
predecessor level some = omega arith

pub next_small : {p n b level j t : ℕ} {f u : List ℕ} → SpanOperands p n b level j t f u → (k : ℕ) → k ≤ 12
    → (j + 2 ^ k ≤ 8192) × (b * (j + 2 ^ k) ≤ 64 * 8192)
next_small {b = b} {j = j} pre k low =
    let small : j + 2 ^ k ≤ 8192 =
    omega (arith, pow_mono low, mul-le-mul_right j pre.some, pre.begins, pre.outer) in
    (small, mul-le-mul pre.short small)

pub part_room : {p n b level j t : ℕ} {f u : List ℕ} → SpanOperands p n b level j t f u → t + 2 * n ≤ length u
part_room {n = n} {level} pre =
    let least : 2 * n ≤ (level + 2) * n = mul-le-mul_right n (omega arith) in
    omega (arith, pre.room)

pub span_small : {p n b level j t r : ℕ} {f u v : List ℕ} → n ≤ limit → length f ≤ limit
    → SpanPart p n b level j t f u v r → r ≤ limit * limit
unfolding horner_weight
span_small {b = b} {level} {j} {f = f} order outer part =
    rw part.sum (mul-le-mul {n₂ = limit} (omega (arith, length-span b f level j)) order)

-- the weights of two spans, and of the product that joins them
pub join_small : {p n b k l i j s t q r : ℕ} {f u v x y : List ℕ} → n ≤ limit → length f ≤ limit
    → SpanPart p n b k i s f u v q → SpanPart p n b l j t f x y r → q + r + n ≤ (2 * limit + 1) * limit
join_small order outer even odd = omega (arith, span_small order outer even, span_small order outer odd)

module _ {p n b level below j t : ℕ} {f u : List ℕ} (e : level ≡ suc below) (pre : SpanOperands p n b level j t f u) where
  -- the places of a level are n more than those of the level below
  wider : (level + 2) * n ≡ (below + 2) * n + n
  wider = rw (← suc-mul) (ap (λ k. k * n) (omega arith))

  -- there is room for three parts: two neighbours and their product
  three : 3 * n ≤ (level + 2) * n
  three = mul-le-mul_right n (omega arith)

  lower : (below + 1) * n ≡ level * n
  lower = ap (λ k. k * n) (omega arith)

  pub lower-operands : SpanOperands p n b below j t f u
  lower-operands = record {
    modulus = pre.modulus;
    positive = pre.positive;
    order = pre.order;
    outer = pre.outer;
    some = pre.some;
    short = pre.short;
    levels = omega (arith, pre.levels);
    begins = pre.begins;
    apart = omega (arith, lower, next_place n level, pre.apart);
    room = omega (arith, wider, pre.room);
    powers = record { power = λ i less. pre.powers.power i (omega arith) };
  }

  pub span-passed : {w : List ℕ} {r : ℕ} → length f ≤ b * (j + 2 ^ below)
      → SpanPart p n b below j t f u w r → SpanPart p n b level j t f u w r
  span-passed {w} {r} last part = record {
    within = within_wider (le_refl t) (omega (arith, wider)) part.within;
    value = rw (e, span_alone b f below j last) part.value;
    sum = rw (e, span_alone b f below j last) part.sum;
  }

  module _ (next : b * (j + 2 ^ below) < length f) {v : List ℕ} {r : ℕ} (even : SpanPart p n b below j t f u v r) where
    inner-kept : segment v 0 n ≡ segment u 0 n
    inner-kept = segment-within even.within 0 n (inl (omega (arith, next_place n level, pre.apart)))

    pub odd-operands : SpanOperands p n b below (j + 2 ^ below) (t + n) f v
    odd-operands = record {
      modulus = pre.modulus;
      positive = pre.positive;
      order = pre.order;
      outer = pre.outer;
      some = pre.some;
      short = pre.short;
      levels = omega (arith, pre.levels);
      begins = omega arith;
      apart = omega (arith, lower, next_place n level, pre.apart);
      room = omega (arith, wider, pre.room, even.within.size);
      powers = rw inner-kept (holds-within lower-operands.apart even.within lower-operands.powers);
    }

    module _ {w : List ℕ} {s : ℕ} (odd : SpanPart p n b below (j + 2 ^ below) (t + n) f v w s) where
      size : length w ≡ length u
      size = odd.within.size ∙ even.within.size

      pub join_operands : Operands p n (t + n) (level * n) (t + 2 * n) w
      join_operands = record {
        modulus = pre.modulus;
        order = omega (arith, pre.order);
        left = record {
          source = omega (arith, three, pre.room, size);
          target = omega (arith, three, pre.room, size);
          apart = inl (omega arith);
        };
        right = record {
          source = omega (arith, next_place n level, pre.apart, pre.room, size);
          target = omega (arith, three, pre.room, size);
          apart = inl (omega (arith, next_place n level, pre.apart));
        };
      }

      pub span-joined : {x : List ℕ} {q : ℕ} → Joined p n (level * n) t w x q → SpanPart p n b level j t f u x (r + s + q)
      span-joined {x} {q} join = record {
        within =
            within_trans
            (within_wider (le_refl t) (omega (arith, wider)) even.within)
            (within_trans
            (within_wider (omega arith) (omega (arith, wider)) odd.within)
            (within_wider (le_refl t) (omega (arith, three)) join.within));
        value =
            join.value
            ∙ joined-power pre.modulus (segment w t n) (segment w (t + n) n) power-value
            ∙ rw (even-value, odd-value, e) (span-composed b f below j next pre.modulus n (segment u 0 n));
        sum = rw (even.sum, odd.sum, join.places, e) (span-weight b f below j next pre.some n);
      }
        where
          even-value : segment w t n ≡ composed p n (span b below j f) (segment u 0 n)
          even-value = segment-within odd.within t n (inl (le_refl (t + n))) ∙ even.value

          odd-value : segment w (t + n) n ≡ composed p n (span b below (j + 2 ^ below) f) (segment u 0 n)
          odd-value = odd.value ∙ ap (composed p n (span b below (j + 2 ^ below) f)) inner-kept

          power-value : IsPower p n (segment u 0 n) (b * 2 ^ below) (segment w (level * n) n)
          power-value =
              let kept = holds-within (omega (arith, pre.apart)) odd.within (holds-within pre.apart even.within pre.powers) in
              rw lower at (kept.power below (omega arith))
