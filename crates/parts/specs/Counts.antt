-- The counts and the orders of the parts in route 3, for p above 1.
--
--   part-place          place i of part j stands at j + p i, and i is a place of the list too
--   ceil_div-half        twice ⌈a/p⌉ is at most a + 1
--   ceil_div-positive    ⌈a/p⌉ is above 0 where a is
--   part_count-half      twice the count of a part of m places is at most m + 1
--   part_count-sum       the counts of the min(p, m) parts add up to m
-- Assumes nothing.
use Rattle.std.specs.Prelude.{ℕ, zero, suc, ◌+◌, ◌*◌, ◌-◌, ◌<◌, ◌≤◌, min, cond, ◌≡◌, ltb}
use Rattle.std.proofs.Math.Nat.{min-le_left}
use Rattle.std.proofs.Common.{mul_comm, mul-le-mul_left, mul-le-mul_right, one-mul, add-one, sym, ◌∙◌, lt-ltb, le-ltb}
use native.Mathlib.Omega.{arith, by_contra}
use Rattle.algebra.specs.Lists.{ceil_div-below, ceil_div-count, ceil_div-covers, sum-naturals, sum_beyond}
use Rattle.algebra.specs.Parts.{part_count-below}
use Rattle.algebra.specs.Semiring.{naturals}
use Rattle.algebra.specs.Sum as Sum
use Rattle.definition.specs.Bernstein.{part_count}
use Rattle.definition.specs.Lists.{sum, ceil_div}

pub part-place : {p : ℕ} → 0 < p → (m j i : ℕ) → i < ceil_div (m - j) p → (j + p * i < m) × (i < m)
part-place {p} l m j i b =
    let inside : j + p * i < m = (ceil_div-count l m j i).0 b in
    (inside, omega (arith, mul-le-mul_right i l, one-mul i))

-- a sum of k ones, and then zeros
count : (c k : ℕ) (f : ℕ → ℕ) → k ≤ c → ((i : ℕ) → i < k → f i ≡ 1) → ((i : ℕ) → k ≤ i → f i ≡ 0) → Sum.sum naturals c f ≡ k
count c k f u one none = Sum.sum_beyond naturals k c f u (λ i b _. none i b) ∙ ones k one
  where
    ones : (k : ℕ) → ((i : ℕ) → i < k → f i ≡ 1) → Sum.sum naturals k f ≡ k
    ones zero h = Sum.sum-0 naturals f
    ones (suc k) h = rw (Sum.sum-suc naturals k f, ones k (λ i b. h i (omega arith)), h k (omega arith), add-one)

module _ {p : ℕ} (above : 1 < p) where
  positive : 0 < p
  positive = omega arith

  pub ceil_div-half : (a : ℕ) → 2 * ceil_div a p ≤ a + 1
  ceil_div-half a = by_contra (2 * ceil_div a p) (a + 1) (λ b.
      let k : ℕ = ceil_div a p - 1 in
      omega (arith, (ceil_div-below positive a k).0 (omega arith), mul-le-mul_left k above))

  pub ceil_div-positive : (a : ℕ) → 0 < a → 0 < ceil_div a p
  ceil_div-positive a h = (ceil_div-below positive a 0).1 (omega arith)

  pub part_count-half : (m j : ℕ) → 2 * part_count p j m ≤ m + 1
  unfolding part_count
  part_count-half m j = omega (arith, ceil_div-half (m - j))

  part_count_beyond : (m j : ℕ) → m ≤ j → part_count p j m ≡ 0
  part_count_beyond m j h = omega (arith, by_contra (part_count p j m) 0 (λ b. omega (arith, (part_count-below positive m j 0).0 b)))

  pub part_count-sum : (m : ℕ) → sum (min p m) (λ j. part_count p j m) ≡ m
  part_count-sum m =
      sym (sum_beyond (min p m) p (λ j. part_count p j m) (min-le_left p m) (λ j b u. part_count_beyond m j (omega arith)))
      ∙ sum-naturals p (λ j. part_count p j m)
      ∙ Sum.sum_cong naturals p _ _ (λ j u. sym (column j))
      ∙ sym (Sum.sum-blocks naturals c p inside)
      ∙ count (c * p) m inside (ceil_div-covers positive m) (λ i b. rw lt-ltb) (λ i b. rw le-ltb)
    where
      c : ℕ
      c = ceil_div m p

      inside : ℕ → ℕ
      inside i = cond (ltb i m) 1 0

      column : (j : ℕ) → Sum.sum naturals c (λ i. inside (j + p * i)) ≡ part_count p j m
      column j =
          count c (part_count p j m) _
          (by_contra (part_count p j m) c (λ b.
          omega (arith, (part_count-below positive m j c).0 b, ceil_div-covers positive m, mul_comm p c)))
          (λ i b. rw (lt-ltb (j + p * i) m ((part_count-below positive m j i).0 b)))
          (λ i b. rw (le-ltb (j + p * i) m (by_contra m (j + p * i) (λ u. omega (arith, (part_count-below positive m j i).1 u)))))
