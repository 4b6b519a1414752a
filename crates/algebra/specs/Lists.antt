-- Laws of the lists, sums and quotients of the definitions. Assumes nothing.
--
--   length-tabulate          a table of n places has length n
--   coefficient-tabulate     place k < n of a table of n places is the rule at k
--   coefficient_beyond       past the end of a list the coefficient is 0
--   tabulate_beyond          the same of a table
--   tabulate_cong            rules that are equal below n give equal tables
--   tabulate-coefficient     a list is the table of its coefficients
--   table_of                 a list of n places whose coefficients are given by a rule is the table of the rule
--   lists-equal              lists of n places with equal coefficients below n are equal
--   sum-naturals             a sum of the definitions is a sum in the semiring of natural numbers
--   sum_cong                 sums of equal terms
--   sum-zero sum_beyond      all terms 0; terms that are 0 from m on may be left out
--   ceil_div-below            k < ⌈n/p⌉ exactly when k p < n
--   ceil_div-covers           n ≤ ⌈n/p⌉ p
--   ceil_div-count            i < ⌈(m - j)/p⌉ exactly when j + p i < m
use Rattle.std.specs.Prelude.{ℕ, zero, suc, ◌+◌, ◌-◌, ◌*◌, ◌<◌, ◌≤◌, List, [], ◌∷◌, ◌++◌, ◌↔◌, ◌⊎◌, ◌≡◌, refl, length, get_or}
use Rattle.std.proofs.Common.{inl, inr, sym, ◌∙◌, length-append, ext_get_or, eq-or-lt_of_le, le-div_iff_mul-le, le_of_suc-le-suc, lt_irrefl, mul_comm, suc-mul, add-one}
use Rattle.std.proofs.Math.ListN.{get_or-append, get_or-eq_default}
use Rattle.std.proofs.lemmas.List.{get_or_at}
use native.Mathlib.Omega.{arith, by_contra}
use Rattle.definition.specs.Lists.{sum, tabulate, coefficient, ceil_div}
use Rattle.algebra.specs.Semiring.{naturals}
use Rattle.algebra.specs.Sum as Sum

pub length-tabulate : (n : ℕ) (f : ℕ → ℕ) → length (tabulate n f) ≡ n
unfolding tabulate
length-tabulate zero f = refl
length-tabulate (suc n) f = rw (length-append, length-tabulate n f, add-one)

pub coefficient-tabulate : (n : ℕ) (f : ℕ → ℕ) (k : ℕ) → k < n → coefficient (tabulate n f) k ≡ f k
unfolding coefficient tabulate
coefficient-tabulate zero f k l = omega arith
coefficient-tabulate (suc n) f k l = go (eq-or-lt_of_le (le_of_suc-le-suc l)) (coefficient-tabulate n f k)
  where
    go : (k ≡ n) ⊎ (k < n) → (k < n → get_or (tabulate n f) k 0 ≡ f k) → get_or (tabulate n f ++ (f n ∷ [])) k 0 ≡ f k
    go (inl e) r = rw e (get_or_at (tabulate n f) (f n) [] 0 n (length-tabulate n f))
    go (inr b) r = get_or-append (tabulate n f) (f n ∷ []) 0 k (rw length-tabulate b) ∙ r b

pub coefficient_beyond : (l : List ℕ) (k : ℕ) → length l ≤ k → coefficient l k ≡ 0
unfolding coefficient
coefficient_beyond l k b = get_or-eq_default l 0 b

pub tabulate_beyond : (n : ℕ) (f : ℕ → ℕ) (k : ℕ) → n ≤ k → coefficient (tabulate n f) k ≡ 0
tabulate_beyond n f k b = coefficient_beyond (tabulate n f) k (rw length-tabulate b)

pub tabulate_cong : (n : ℕ) (f g : ℕ → ℕ) → ((k : ℕ) → k < n → f k ≡ g k) → tabulate n f ≡ tabulate n g
unfolding tabulate
tabulate_cong zero f g h = refl
tabulate_cong (suc n) f g h = rw (tabulate_cong n f g (λ k l. h k (omega arith)), h n (omega arith))

pub lists-equal : (n : ℕ) (l m : List ℕ) → length l ≡ n → length m ≡ n
    → ((k : ℕ) → k < n → coefficient l k ≡ coefficient m k) → l ≡ m
unfolding coefficient
lists-equal n l m el em h = ext_get_or 0 l m (el ∙ sym em) (λ k b. h k (omega arith))

pub table_of : (n : ℕ) (f : ℕ → ℕ) (l : List ℕ) → length l ≡ n → ((k : ℕ) → k < n → coefficient l k ≡ f k) → l ≡ tabulate n f
table_of n f l e h = lists-equal n l (tabulate n f) e (length-tabulate n f) (λ k b. h k b ∙ sym (coefficient-tabulate n f k b))

pub tabulate-coefficient : (l : List ℕ) → tabulate (length l) (coefficient l) ≡ l
tabulate-coefficient l = sym (table_of (length l) (coefficient l) l refl (λ k b. refl))

pub sum-naturals : (n : ℕ) (f : ℕ → ℕ) → sum n f ≡ Sum.sum naturals n f
unfolding sum
sum-naturals zero f = sym (Sum.sum-0 naturals f)
sum-naturals (suc n) f = rw (Sum.sum-suc naturals n f, sum-naturals n f)

pub sum_cong : (n : ℕ) (f g : ℕ → ℕ) → ((k : ℕ) → k < n → f k ≡ g k) → sum n f ≡ sum n g
sum_cong n f g h = rw (sum-naturals n f, sum-naturals n g) (Sum.sum_cong naturals n f g h)

pub sum-zero : (n : ℕ) (f : ℕ → ℕ) → ((k : ℕ) → k < n → f k ≡ 0) → sum n f ≡ 0
sum-zero n f h = sum-naturals n f ∙ Sum.sum-𝟘 naturals n f h

pub sum_beyond : (m n : ℕ) (f : ℕ → ℕ) → m ≤ n → ((k : ℕ) → m ≤ k → k < n → f k ≡ 0) → sum n f ≡ sum m f
sum_beyond m n f b h = rw (sum-naturals n f, sum-naturals m f) (Sum.sum_beyond naturals m n f b h)

pub ceil_div-below : {p : ℕ} → 0 < p → (n k : ℕ) → (k < ceil_div n p) ↔ (k * p < n)
unfolding ceil_div
ceil_div-below {p} l n k = (
  (λ b. omega (arith, (le-div_iff_mul-le l).0 b, suc-mul k p)),
  (λ b. (le-div_iff_mul-le l).1 (omega (arith, suc-mul k p))),
)

pub ceil_div-covers : {p : ℕ} → 0 < p → (n : ℕ) → n ≤ ceil_div n p * p
ceil_div-covers {p} l n = by_contra n (ceil_div n p * p) (λ b. lt_irrefl (ceil_div n p) ((ceil_div-below l n (ceil_div n p)).1 b))

pub ceil_div-count : {p : ℕ} → 0 < p → (m j i : ℕ) → (i < ceil_div (m - j) p) ↔ (j + p * i < m)
ceil_div-count {p} l m j i = (
  λ b. omega (arith, (ceil_div-below l (m - j) i).0 b, mul_comm i p),
  λ b. (ceil_div-below l (m - j) i).1 (omega (arith, mul_comm i p)),
)
