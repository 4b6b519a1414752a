-- Karatsuba's rule on lists: the three products of half the length, woven, are the product.
--
--   cut_product_taken   a cut product depends only on the first places of its factors
--   rule               a list that holds the three products, woven, is the product
-- Assumes nothing.
use Prim.Native.Nat.{ℕ, zero, suc, ◌+◌, ◌-◌, ◌*◌, ◌/◌, ◌%◌, ◌<◌, ◌≤◌}
use Rattle.std.proofs.Math.Nat.{add-zero, mod-mod, zero-mod}
use Rattle.std.proofs.Common.{zero-add, arith, ◌∙◌, get_or-drop, get_or-take}
use Rattle.std.proofs.Math.Numerals.{add-one}
use Rattle.std.specs.Prelude.{List, ◌≡◌, refl, drop, take}
use Rattle.std.proofs.Math.Path.{sym, ap}
use Rattle.algebra.specs.Agree.{Agree, agree_⊠}
use Rattle.algebra.specs.Alternate.{even, odd}
use Rattle.algebra.specs.Bridge.{coefficient-listed, cut_product-listed, length-listed, listed, listed_agree, residue-series, series_of}
use Rattle.algebra.specs.Homomorphism.{coefficients-at}
use Rattle.algebra.specs.Karatsuba.{even-⊠, middle}
use Rattle.algebra.specs.Lists.{coefficient-tabulate, table_of}
use Rattle.algebra.specs.Residue.{Residue, reduction, residue, residue-0, residue-equal, residue-value, residue-+, residues, residues_negation, ⊕-value, neg_value}
use Rattle.algebra.specs.Series.{Series, indeterminate-⊠, neg-at, shift, shift-0, shift_suc, ⊞-at}
use Rattle.definition.specs.Lists.{coefficient, tabulate}
use Rattle.definition.specs.Substitution.{cut_product}
use Rattle.parity.specs.Halves.{neighbour_sum, part, part_at, second}
use Rattle.parity.specs.Weave.{delayed, places_from, woven, woven_at, woven-even, woven-odd}

module _ {p : ℕ} (l : 0 < p) (a b : Series (Residue p)) (n : ℕ) (e o m : ℕ → ℕ) where
  infixl 50 ◌⊞◌
  infixl 60 ◌⊠◌
  open residue-series l use {◌⊕◌ as ◌⊞◌, ◌⊗◌ as ◌⊠◌}

  -- e, o and m are the products of the even parts, of the odd parts and of their sums
  record Thirds : Type 0 where
    evens : (i : ℕ) → i < n - n / 2 → e i ≡ ((even a ⊠ even b) i).0
    odds : (i : ℕ) → i < n / 2 → o i ≡ ((odd a ⊠ odd b) i).0
    sums : (i : ℕ) → i < n / 2 → m i ≡ (((even a ⊞ odd a) ⊠ (even b ⊞ odd b)) i).0

  module _ (thirds : Thirds) where
    delayed-shift : (i : ℕ) → 2 * i < n → delayed o i ≡ (shift (residues l) (odd a ⊠ odd b) i).0
    unfolding delayed
    delayed-shift zero h = rw (shift-0 (residues l), ← residue-0 l, residue-value l, zero-mod)
    delayed-shift (suc i) h = rw (shift_suc (residues l)) (thirds.odds i (omega arith))

    even_place : (i : ℕ) → 2 * i < n → woven_at p e o m (2 * i) ≡ ((a ⊠ b) (2 * i)).0
    even_place i h =
        rw (woven-even, thirds.evens i (omega arith), delayed-shift i h)
        (sym (ap (λ s. (s i).0) (even-⊠ (residues l) a b) ∙ simp (⊞-at, ⊕-value, indeterminate-⊠)))

    odd_place : (i : ℕ) → 2 * i + 1 < n → woven_at p e o m (2 * i + 1) ≡ ((a ⊠ b) (2 * i + 1)).0
    odd_place i h =
        rw (woven-odd, thirds.evens i (omega arith), thirds.odds i (omega arith), thirds.sums i (omega arith), add-one)
        (sym (ap (λ s. (s i).0) (middle (residues l) a b (residues_negation l)) ∙ simp (⊞-at, ⊕-value, neg-at, neg_value)))

    place : (k j : ℕ) → k % 2 ≡ j → k < n → woven_at p e o m k ≡ ((a ⊠ b) k).0
    place k zero r h = let f : k ≡ 2 * (k / 2) = omega arith in rw f (even_place (k / 2) (omega arith))
    place k (suc j) r h = let f : k ≡ 2 * (k / 2) + 1 = omega arith in rw f (odd_place (k / 2) (omega arith))

    woven-product : (k : ℕ) → k < n → woven_at p e o m k ≡ ((a ⊠ b) k).0
    woven-product k h = place k (k % 2) refl h

module _ {p : ℕ} (l : 0 < p) where
  open residue-series l use {◌⊕◌ as ◌⊞◌, ◌⊗◌ as ◌⊠◌}

  series-at : (xs : List ℕ) (k : ℕ) → series_of l xs k ≡ residue l (coefficient xs k)
  series-at xs = coefficients-at (reduction l) (coefficient xs)

  table_agree : (n : ℕ) (f : ℕ → ℕ) (s : Series (Residue p)) → ((k : ℕ) → k < n → residue l (f k) ≡ s k) → Agree n (series_of l (tabulate n f)) s
  table_agree n f s h k b = rw (series-at, coefficient-tabulate n f k b) (h k b)

  taken_agree : (n : ℕ) (xs : List ℕ) → Agree n (series_of l (take n xs)) (series_of l xs)
  unfolding coefficient
  taken_agree n xs k b = series-at (take n xs) k ∙ rw (get_or-take n xs k 0 b) (sym (series-at xs k))

  module _ (n : ℕ) (xs : List ℕ) where
    second_agree : (from c : ℕ) → 2 * c + from ≤ n + 1
        → Agree c (series_of l (tabulate c (second from (take n xs)))) (λ i. series_of l xs (2 * i + from))
    unfolding second
    second_agree from c h =
        table_agree c (second from (take n xs)) _ (λ k b. sym (series-at (take n xs) (2 * k + from)) ∙ taken_agree n xs (2 * k + from) (omega arith))

    evens_agree : Agree (n - n / 2) (series_of l (part p n 0 (n - n / 2) xs)) (even (series_of l xs))
    unfolding part_at
    evens_agree = simp add-zero at (second_agree 0 (n - n / 2) (omega arith))

    odds_agree : Agree (n / 2) (series_of l (part p n 1 (n / 2) xs)) (odd (series_of l xs))
    unfolding part_at
    odds_agree = simp add-one at (second_agree 1 (n / 2) (omega arith))

    sums_agree : Agree (n / 2) (series_of l (part p n 2 (n / 2) xs)) (even (series_of l xs) ⊞ odd (series_of l xs))
    unfolding neighbour_sum part_at
    sums_agree = table_agree (n / 2) (neighbour_sum p (take n xs)) _ (λ k b.
        (residue-equal l _ _).1 (mod-mod _ p)
        ∙ residue-+ l (coefficient (take n xs) (2 * k)) (coefficient (take n xs) (2 * k + 1))
        ∙ rw (
          ⊞-at (residues l),
          ← series-at (take n xs) (2 * k),
          ← series-at (take n xs) (2 * k + 1),
          taken_agree n xs (2 * k) (omega arith),
          taken_agree n xs (2 * k + 1) (omega arith),
          add-one,
        ))

  module _ {c : ℕ} (xs ys : List ℕ) {a b : Series (Residue p)} (left : Agree c (series_of l xs) a) (right : Agree c (series_of l ys) b) where
    product-listed : cut_product p c xs ys ≡ listed c (a ⊠ b)
    product-listed = cut_product-listed l c xs ys ∙ listed_agree (agree_⊠ (residues l) left right)

    product-place : (zs : List ℕ) → take c zs ≡ cut_product p c xs ys → (k : ℕ) → k < c → coefficient zs k ≡ ((a ⊠ b) k).0
    unfolding coefficient
    product-place zs e k h =
        sym (get_or-take c zs k 0 h) ∙ ap (λ us. coefficient us k) (e ∙ product-listed) ∙ coefficient-listed c (a ⊠ b) k h

  pub cut_product_taken : (c : ℕ) (xs ys : List ℕ) → cut_product p c (take c xs) (take c ys) ≡ cut_product p c xs ys
  cut_product_taken c xs ys = product-listed (take c xs) (take c ys) (taken_agree c xs) (taken_agree c ys) ∙ sym (cut_product-listed l c xs ys)

  after : (r : List ℕ) (a i : ℕ) → places_from r a i ≡ coefficient (drop a r) i
  unfolding coefficient
  after r a i = sym (rw get_or-drop)

  pub rule : (n : ℕ) (xs ys r : List ℕ)
      → take (n - n / 2) r ≡ cut_product p (n - n / 2) (part p n 0 (n - n / 2) xs) (part p n 0 (n - n / 2) ys)
      → take (n / 2) (drop (n - n / 2) r) ≡ cut_product p (n / 2) (part p n 1 (n / 2) xs) (part p n 1 (n / 2) ys)
      → take (n / 2) (drop n r) ≡ cut_product p (n / 2) (part p n 2 (n / 2) xs) (part p n 2 (n / 2) ys)
      → tabulate n (woven p r 0 r (n - n / 2) r n) ≡ cut_product p n xs ys
  rule n xs ys r e o m =
      sym (cut_product-listed l n xs ys
      ∙ table_of n (woven p r 0 r (n - n / 2) r n) _ (length-listed n _)
      (λ k h. coefficient-listed n _ k h ∙ sym (woven-product l (series_of l xs) (series_of l ys) n _ _ _ thirds k h)))
    where
      thirds : Thirds l (series_of l xs) (series_of l ys) n (places_from r 0) (places_from r (n - n / 2)) (places_from r n)
      thirds = record {
        evens = λ i h.
            rw zero-add (product-place (part p n 0 (n - n / 2) xs) (part p n 0 (n - n / 2) ys) (evens_agree n xs) (evens_agree n ys) r e i h);
        odds = λ i h.
            after r (n - n / 2) i
            ∙ product-place (part p n 1 (n / 2) xs) (part p n 1 (n / 2) ys) (odds_agree n xs) (odds_agree n ys) (drop (n - n / 2) r) o i h;
        sums = λ i h.
            after r n i ∙ product-place (part p n 2 (n / 2) xs) (part p n 2 (n / 2) ys) (sums_agree n xs) (sums_agree n ys) (drop n r) m i h;
      }
