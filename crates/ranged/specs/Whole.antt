-- Route 2 as a whole: the powers, and then the span of all blocks, in the work buffer that is lent. The inner list is put at place 0: v is
-- the buffer with it, u with the powers, x with the result.
--
--   whole-levels     the number of levels
--   whole-places     the places of the powers and of the result
--   whole-powers     what `powers` requires
--   whole-span       what `compose_span` requires
--   whole-within     the places that are used
--   whole-value      the result is the composition
--   whole-weight     the weight is that of route 2
--   whole-small      it fits a word
-- Assumes nothing.
use Rattle.std.specs.Prelude.{ℕ, ◌+◌, ◌*◌, ◌<◌, ◌≤◌, List, ◌≡◌, length}
use Rattle.std.proofs.Common.{add_comm, le_refl, mul-le-mul, mul-le-mul_right, mul-zero, arith, inl, ◌∙◌}
use Rattle.definition.specs.Lists.{ceil_div}
use Rattle.definition.specs.Refusal.{limit, longest_block}
use Rattle.definition.specs.Substitution.{composed}
use Rattle.definition.specs.Weight.{halvings, ranged_weight}
use Rattle.buffer.specs.Segments.{segment}
use Rattle.route.specs.Contract.{Lent}
use Rattle.buffer.specs.Within.{Within, segment-within, within_trans, within_wider}
use Rattle.ranged.specs.Joins.{SpanOperands, SpanPart, span_small}
use Rattle.powers.specs.Binary.{PowerOperands}
use Rattle.powers.specs.Kept.{Powers}
use Rattle.ranged.specs.Spans.{span, span-whole}
use Rattle.ranged.specs.Weights.{few-products, few_rounds, ranged_weight_lem}

module _ {p n b levels work : ℕ} (f : List ℕ) (lent : Lent p n (length f) work) (bounds : (0 < b) × (b ≤ longest_block))
    (number : levels ≡ halvings (ceil_div (length f) b)) where
  pub whole-levels : levels ≤ 12
  whole-levels = rw number (few_rounds b (length f) bounds.0 lent.outer)

  pub whole-places : ((levels + 1) * n ≤ 13 * n) × ((levels + 2) * n ≤ 14 * n)
  whole-places = (mul-le-mul_right n (omega (arith, whole-levels)), mul-le-mul_right n (omega (arith, whole-levels)))

  pub whole-powers : {v : List ℕ} → length v ≡ work → PowerOperands p n levels v
  whole-powers size = record {
    modulus = lent.modulus;
    order = lent.order;
    few = whole-levels;
    room = omega (arith, whole-places.1, lent.enough, size);
  }

  module _ {u v : List ℕ} {r : ℕ} (made : Powers p n b levels v u r) where
    inner-kept : segment u 0 n ≡ segment v 0 n
    inner-kept = segment-within made.within 0 n (inl (omega arith))

    pub whole-span : length v ≡ work → SpanOperands p n b levels 0 ((levels + 1) * n) f u
    whole-span size = record {
      modulus = lent.modulus;
      positive = lent.positive;
      order = lent.order;
      outer = lent.outer;
      some = bounds.0;
      short = bounds.1;
      levels = whole-levels;
      begins = rw mul-zero (omega arith);
      apart = le_refl ((levels + 1) * n);
      room = omega (arith, whole-places, lent.enough, size, made.within.size);
      powers = rw inner-kept made.value;
    }

    module _ {x : List ℕ} {s : ℕ} (joined : SpanPart p n b levels 0 ((levels + 1) * n) f u x s) where
      all : span b levels 0 f ≡ f
      all = rw number (span-whole b f bounds.0)

      pub whole-within : Within n (27 * n) v x
      whole-within =
          let first : 1 * n ≤ (levels + 1) * n = mul-le-mul_right n (omega arith) in
          within_trans
          (within_wider (le_refl n) (omega (arith, whole-places)) made.within)
          (within_wider (omega arith) (omega (arith, whole-places)) joined.within)

      pub whole-value : segment x ((levels + 1) * n) n ≡ composed p n f (segment v 0 n)
      whole-value = joined.value ∙ rw (inner-kept, all)

      pub whole-weight : r + s ≡ ranged_weight b n (length f)
      whole-weight = rw (ranged_weight_lem b (length f) bounds.0 n, made.sum, joined.sum, all, ← number) (add_comm _ _)

      pub whole-small : r + s ≤ (limit + 50) * limit
      whole-small =
          omega (
            arith,
            made.sum,
            mul-le-mul (few-products b levels bounds.1 whole-levels) lent.order,
            span_small lent.order lent.outer joined,
          )
