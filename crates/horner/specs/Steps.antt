-- The two steps of a turn, and what they leave.
--
--   Taken                the contract of `take_next`: step (a) leaves `between`, and step (b) then `after`
--   constant-added       c added at the first place of a cut product is the sum with the constant c
-- Assumes nothing.
use Prim.Native.Nat.{ℕ, zero, suc, ◌+◌, ◌%◌, ◌<◌}
use Rattle.std.proofs.Common.{add-zero, arith, ap, sym, ◌∙◌, length-set}
use Rattle.std.proofs.Math.Nat.{mod-mod}
use Rattle.std.specs.Prelude.{List, [], ◌∷◌, ◌≡◌, set, take, drop}
use Rattle.std.proofs.lemmas.List.{drop-set-add}
use Rattle.std.proofs.Math.Seq.{get_or-set_other, get_or-set_same, take-set-lt}
use Rattle.algebra.specs.Bridge.{length-cut_product}
use Rattle.algebra.specs.Lists.{coefficient-tabulate, table_of}
use Rattle.buffer.specs.Segments.{coefficient-segment, segment}
use Rattle.definition.specs.Lists.{coefficient}
use Rattle.definition.specs.Substitution.{cut_product, cut_product_at, cut_sum, cut_sum_at, product}
use Rattle.product.specs.Single.{Multiplied}

pub record Taken (p n c s b t : ℕ) (before after : List ℕ) (result : ℕ) : Type 0 where
  pub between : List ℕ
  pub multiplied : Multiplied p n s b t before between result
  pub added : after ≡ set between t ((coefficient between t + c) % p)

module _ (p n c : ℕ) (a b : List ℕ) (some : 0 < n) where
  -- place k of the product
  at-product : (k : ℕ) → k < n → coefficient (cut_product p n a b) k ≡ product (coefficient a) (coefficient b) k % p
  unfolding cut_product cut_product_at
  at-product = coefficient-tabulate n (cut_product_at p a b)

  written-first : set (cut_product p n a b) 0 ((coefficient (cut_product p n a b) 0 + c) % p) ≡ cut_sum p n (cut_product p n a b) (c ∷ [])
  unfolding cut_sum cut_sum_at coefficient
  written-first =
      table_of n (cut_sum_at p (cut_product p n a b) (c ∷ [])) _ (length-set (cut_product p n a b) 0 _ ∙ length-cut_product p n a b) at
    where
      at : (k : ℕ) → k < n
          → coefficient (set (cut_product p n a b) 0 ((coefficient (cut_product p n a b) 0 + c) % p)) k ≡ cut_sum_at p (cut_product p n a b) (c ∷ []) k
      at zero h = get_or-set_same (cut_product p n a b) 0 _ 0 (rw (length-cut_product p n a b) some)
      at (suc k) h =
          get_or-set_other (cut_product p n a b) 0 (suc k) _ 0 (λ e. omega arith) ∙ rw (add-zero, at-product (suc k) h, mod-mod)

  pub constant-added : (x : List ℕ) (r : ℕ) → segment x r n ≡ cut_product p n a b
      → segment (set x r ((coefficient x r + c) % p)) r n ≡ cut_sum p n (cut_product p n a b) (c ∷ [])
  constant-added x r e =
      let first : coefficient x r ≡ coefficient (cut_product p n a b) 0 =
      sym (coefficient-segment x r n 0 some ∙ ap (coefficient x) (add-zero r)) ∙ ap (λ s. coefficient s 0) e in
      set-segment ((coefficient x r + c) % p) ∙ rw (first, e) written-first
    where
      set-segment : (v : ℕ) → segment (set x r v) r n ≡ set (segment x r n) 0 v
      set-segment v = ap (take n) (rw add-zero at (drop-set-add r x 0 v)) ∙ take-set-lt n (drop r x) 0 v some
