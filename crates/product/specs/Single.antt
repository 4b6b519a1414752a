-- Cut products in one variable, on parts of one list.
--
--   Operands p n a b t w      what `multiply` and `multiply_add` require (`coefficients/Operands`)
--   Multiplied                the contract of `multiply`
--   MultipliedAdd             the contract of `multiply_add`
--   added_product p n a b t w  its target after the call (`coefficients/Operands`)
--   added-zeros               it over zeros is the product
--   multiplied-within multiplied-value   what a product changes, and what it leaves at its target
-- Assumes nothing.
use Rattle.std.specs.Prelude.{ℕ, ◌+◌, ◌≤◌, ◌≡◌, List, length, take, drop, replicate}
use Rattle.std.proofs.Common.{le_of_eq, le_refl, zero-add, arith}
use Rattle.std.proofs.Math.Nat.{mod-mod}
use Rattle.std.proofs.lemmas.List.{length-replicate, get_or-replicate}
use Rattle.std.proofs.lemmas.List.Edits.{sets}
use Rattle.algebra.specs.Bridge.{length-cut_product}
use Rattle.algebra.specs.Lists.{coefficient-tabulate, tabulate_cong}
use Rattle.buffer.specs.Segments.{segment, segment-kept}
use Rattle.buffer.specs.Within.{Within, segment-sets, within-sets}
use Rattle.buffer.specs.Written.{part-sets, sets_cover}
use Rattle.definition.specs.Lists.{coefficient}
use Rattle.definition.specs.Ranged.{joined}
use Rattle.definition.specs.Substitution.{cut_product, cut_product_at, cut_sum, cut_sum_at}
pub use Rattle.coefficients.specs.Operands.{Operands, added_product, length-added, operands-length}

pub record Multiplied (p n a b t : ℕ) (before after : List ℕ) (result : ℕ) : Type 0 where
  pub written : after ≡ sets before t (cut_product p n (segment before a n) (segment before b n))
  pub places : result ≡ n

pub record MultipliedAdd (p n a b t : ℕ) (before after : List ℕ) (result : ℕ) : Type 0 where
  pub written : after ≡ sets before t (added_product p n a b t before)
  pub places : result ≡ n

pub multiplied-within : {p n a b t : ℕ} {v w : List ℕ} {r : ℕ} → Multiplied p n a b t v w r → Within t n v w
multiplied-within {p} {n} {a} {b} {t} {v} done =
    rw done.written
    (within-sets v t (cut_product p n (segment v a n) (segment v b n)) (le_refl t) (rw length-cut_product (le_refl (t + n))))

pub multiplied-value : {p n a b t : ℕ} {v w : List ℕ} {r : ℕ} → Multiplied p n a b t v w r → t + n ≤ length v
    → segment w t n ≡ cut_product p n (segment v a n) (segment v b n)
multiplied-value {p} {n} {a} {b} {t} {v} done fits =
    rw done.written
    (segment-sets v t (cut_product p n (segment v a n) (segment v b n)) n (length-cut_product p n (segment v a n) (segment v b n)) fits)

joined-zeros : (p n : ℕ) (u v : List ℕ) → joined p n (replicate n 0) u v ≡ cut_product p n u v
unfolding joined cut_sum cut_sum_at cut_product cut_product_at coefficient
joined-zeros p n u v =
    tabulate_cong n (cut_sum_at p (replicate n 0) (cut_product p n u v)) (cut_product_at p u v)
    (λ k h. rw (get_or-replicate {A = ℕ} n k 0 0 h, zero-add, coefficient-tabulate n (cut_product_at p u v) k h, mod-mod))

pub added-zeros : {p n a b t : ℕ} {w : List ℕ} → Operands p n a b t w
    → sets (sets w t (replicate n 0)) t (added_product p n a b t (sets w t (replicate n 0)))
    ≡ sets w t (cut_product p n (segment w a n) (segment w b n))
added-zeros {p} {n} {a} {b} {t} {w} o =
    let zeros : List ℕ = replicate n 0 in
    let size : length zeros ≡ n = length-replicate n 0 in
    let same : take n (drop t (sets w t zeros)) ≡ zeros = rw size at (part-sets w t zeros (omega (arith, o.left.target))) in
    rw (
      same,
      segment-kept o.left zeros (le_of_eq size),
      segment-kept o.right zeros (le_of_eq size),
      joined-zeros p n (segment w a n) (segment w b n),
    )
    (sets_cover w t zeros (cut_product p n (segment w a n) (segment w b n))
    (rw (size, length-cut_product p n (segment w a n) (segment w b n)) (le_refl n)))
