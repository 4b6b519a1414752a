-- The number of halvings, each rounded up, that take n to at most 1. Assumes nothing.
--
--   halvings-covers    n is at most 2^K, with K the number of halvings of n
--   halvings-least     2^k is below n for every k below K
--   halvings_unique    these two laws determine K
--   halvings-1         for n up to 1 it is 0
--   halvings-suc       for n above 1 it is one more than for ⌈n/2⌉
--   halvings-leading   for n above 0 it is the number of binary digits of n - 1
use Rattle.std.specs.Prelude.{ℕ, zero, suc, ◌+◌, ◌-◌, ◌<◌, ◌≤◌, ◌^◌, Bool, true, false, cond, ◌≡◌, refl, leb}
use Rattle.std.proofs.Common.{leb-true, leb-false, pow_mono, pow_pos, add-suc, add-zero, suc-add, arith}
use Rattle.std.specs.Int.Count.{count_leading_zeros}
use Rattle.std.proofs.lemmas.Nat.{leading_length}
use Rattle.std.proofs.Math.Decide.{dec_lt, ℕ_discrete}
use Rattle.std.proofs.Math.Nat.{zero-add}
use Rattle.definition.specs.Lists.{ceil_div}
use Rattle.definition.specs.Weight.{halvings_from, halvings}

-- r is the least number from k on with 2^r at least n
record Least (k n r : ℕ) : Type 0 where
  covers : n ≤ 2 ^ r
  below : (j : ℕ) → k ≤ j → j < r → 2 ^ j < n

least : (tries k n : ℕ) → n ≤ 2 ^ (k + tries) → Least k n (halvings_from tries k n)
unfolding halvings_from
least zero k n b = record { covers = rw add-zero at b; below = λ j a c. absurd (omega arith) }
least (suc tries) k n b = go (leb n (2 ^ k)) refl (least tries (suc k) n (rw (suc-add, ← add-suc) b))
  where
    go : (t : Bool) → leb n (2 ^ k) ≡ t → Least (suc k) n (halvings_from tries (suc k) n)
        → Least k n (cond t k (halvings_from tries (suc k) n))
    go true e r = record { covers = leb-true n (2 ^ k) e; below = λ j a b. absurd (omega arith) }
    go false e r = record { covers = r.covers; below = λ j a b. at j a b (ℕ_discrete j k) }
      where
        at : (j : ℕ) → k ≤ j → j < halvings_from tries (suc k) n → Dec (j ≡ k) → 2 ^ j < n
        at j a b (yes s) = rw s (leb-false n (2 ^ k) e)
        at j a b (no s) = r.below j (omega arith) b

below_power : (n : ℕ) → n ≤ 2 ^ n
below_power zero = omega arith
below_power (suc n) = omega (arith, below_power n, pow_pos n)

module _ (n : ℕ) where
  rule : Least 0 n (halvings n)
  unfolding halvings
  rule = least n 0 n (rw zero-add (below_power n))

  pub halvings-covers : n ≤ 2 ^ halvings n
  halvings-covers = rule.covers

  pub halvings-least : (k : ℕ) → k < halvings n → 2 ^ k < n
  halvings-least k b = rule.below k (omega arith) b

  pub halvings_unique : (k : ℕ) → n ≤ 2 ^ k → ((j : ℕ) → j < k → 2 ^ j < n) → halvings n ≡ k
  halvings_unique k b h = go (dec_lt k (halvings n)) (dec_lt (halvings n) k)
    where
      go : Dec (k < halvings n) → Dec (halvings n < k) → halvings n ≡ k
      go (yes a) c = absurd (omega (arith, halvings-least k a))
      go (no a) (yes c) = absurd (omega (arith, h (halvings n) c, halvings-covers))
      go (no a) (no c) = omega arith

pub halvings-1 : (n : ℕ) → n ≤ 1 → halvings n ≡ 0
halvings-1 n b = halvings_unique n 0 b (λ j c. absurd (omega arith))

pub halvings-suc : (n : ℕ) → 1 < n → halvings n ≡ suc (halvings (ceil_div n 2))
unfolding ceil_div
halvings-suc n l = halvings_unique n (suc (halvings (ceil_div n 2))) (omega (arith, halvings-covers (ceil_div n 2))) below
  where
    below : (j : ℕ) → j < suc (halvings (ceil_div n 2)) → 2 ^ j < n
    below zero b = l
    below (suc j) b = omega (arith, halvings-least (ceil_div n 2) j (omega arith))

pub halvings-leading : (k n : ℕ) → 0 < n → n - 1 < 2 ^ k → halvings n ≡ k - count_leading_zeros k (n - 1)
halvings-leading k n l b =
    let (m, e, c, d) = leading_length k (n - 1) b in
    let s : k - count_leading_zeros k (n - 1) ≡ m = omega arith in
    rw s (halvings_unique n m (omega arith) (λ j u. omega (arith, pow_mono {i = suc j} {j = m} u)))
