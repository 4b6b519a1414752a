-- Two neighbours joined in the work buffer as even + odd × G: a product, then an addition. The even one stands at t, the odd one beside it.
--
--   Joined      the contract of `join`
--   join_made   the product, and then the sum, make it
-- Assumes nothing.
use Rattle.std.specs.Prelude.{ℕ, ◌+◌, ◌*◌, List, ◌≡◌, length}
use Rattle.std.proofs.Common.{le_refl, arith, inl, ◌∙◌}
use Rattle.std.proofs.lemmas.List.Edits.{sets}
use Rattle.algebra.specs.Bridge.{length-cut_sum}
use Rattle.buffer.specs.Segments.{segment}
use Rattle.buffer.specs.Within.{Within, segment-sets, segment-within, within-sets, within_trans, within_wider}
use Rattle.definition.specs.Ranged.{joined}
use Rattle.definition.specs.Substitution.{cut_sum}
use Rattle.product.specs.Single.{Multiplied, Operands, multiplied-value, multiplied-within}

pub record Joined (p n power t : ℕ) (before after : List ℕ) (result : ℕ) : Type 0 where
  pub within : Within t (3 * n) before after
  pub value : segment after t n ≡ joined p n (segment before t n) (segment before (t + n) n) (segment before power n)
  pub places : result ≡ n

pub join_made : {p n power t q : ℕ} {u v w : List ℕ} → Operands p n (t + n) power (t + 2 * n) u
    → Multiplied p n (t + n) power (t + 2 * n) u v q → w ≡ sets v t (cut_sum p n (segment v t n) (segment v (t + 2 * n) n))
    → Joined p n power t u w q
unfolding joined
join_made {p} {n} {power} {t} {q} {u} {v} {w} o multiplied added = record {
  within = within_trans (within_wider (omega arith) (omega arith) product-within) sum-within;
  value =
      rw added
      (segment-sets v t (cut_sum p n (segment v t n) (segment v (t + 2 * n) n)) n size (omega (arith, o.left.target, product-within.size))
      ∙ rw (segment-within product-within t n (inl (omega arith)), multiplied-value multiplied o.left.target));
  places = multiplied.places;
}
  where
    size : length (cut_sum p n (segment v t n) (segment v (t + 2 * n) n)) ≡ n
    size = length-cut_sum p n (segment v t n) (segment v (t + 2 * n) n)

    product-within : Within (t + 2 * n) n u v
    product-within = multiplied-within multiplied

    sum-within : Within t (3 * n) v w
    sum-within = rw added (within-sets v t (cut_sum p n (segment v t n) (segment v (t + 2 * n) n)) (le_refl t) (rw size (omega arith)))
