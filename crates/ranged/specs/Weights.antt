-- The weight of route 2.
--
--   join_products_lem   k blocks, k above 1, are joined by k - 1 products, with a squaring before each round but the first
--   ranged_weight_lem   the weight of route 2: that of route 1, and the products that form the powers
--   few_rounds      at most 4096 places are joined in at most 12 rounds
--   few-products    then few products form the powers
-- Assumes nothing.
use Rattle.std.specs.Prelude.{ℕ, zero, suc, ◌+◌, ◌-◌, ◌*◌, ◌<◌, ◌≤◌, cond, ◌≡◌, leb}
use Rattle.std.proofs.Math.Decide.{dec_lt}
use Rattle.std.proofs.Common.{add-mul, le_refl, mul-le-mul_left, zero-mul, le-leb}
use native.Mathlib.Omega.{arith, by_contra}
use Rattle.std.proofs.lemmas.Bool.{lt-leb}
use Rattle.algebra.specs.Halvings.{halvings-1, halvings-least, halvings-suc}
use Rattle.algebra.specs.Lists.{ceil_div-below}
use Rattle.definition.specs.Lists.{ceil_div}
use Rattle.definition.specs.Refusal.{limit, longest_block}
use Rattle.definition.specs.Weight.{halvings, horner_weight, join_products, ranged_products, ranged_weight}
use Rattle.powers.specs.Digits.{power-products-few}
use Rattle.powers.specs.Kept.{powers_products}

join_products_lem : (rounds k : ℕ) → k ≤ rounds → 1 < k → join_products rounds k ≡ k - 1 + (halvings k - 1)
unfolding join_products ceil_div
join_products_lem zero k enough more = absurd (omega arith)
join_products_lem (suc rounds) k enough more =
    rw (lt-leb k 1 more, halvings-suc k more) (half (dec_lt 1 (ceil_div k 2)) (join_products_lem rounds (ceil_div k 2)))
  where
    half : Dec (1 < ceil_div k 2)
        → (ceil_div k 2 ≤ rounds → 1 < ceil_div k 2 → join_products rounds (ceil_div k 2) ≡ ceil_div k 2 - 1 + (halvings (ceil_div k 2) - 1))
        → k - ceil_div k 2 + cond (leb (ceil_div k 2) 1) 0 (1 + join_products rounds (ceil_div k 2)) ≡ k - 1 + (suc (halvings (ceil_div k 2)) - 1)
    half (yes more) rest = rw (lt-leb (ceil_div k 2) 1 more, rest (omega arith) more) (omega (arith, halvings-suc (ceil_div k 2) more))
    half (no last) rest = rw (le-leb (ceil_div k 2) 1 (omega arith), halvings-1 (ceil_div k 2) (omega arith)) (omega arith)

module _ (b m : ℕ) (positive : 0 < b) where
  fewer_blocks : 1 < ceil_div m b → ceil_div m b ≤ m
  fewer_blocks more =
      omega (arith, (ceil_div-below positive m (ceil_div m b - 1)).0 (omega arith), mul-le-mul_left (ceil_div m b - 1) positive)

  some_block : 0 < m → 0 < ceil_div m b
  some_block some = (ceil_div-below positive m 0).1 (rw zero-mul some)

  ranged_products_lem : ranged_products b m (ceil_div m b) ≡ m - 1 + powers_products b (halvings (ceil_div m b))
  unfolding ranged_products powers_products
  ranged_products_lem = go (dec_lt 1 (ceil_div m b)) (dec_lt 0 m)
    where
      go : Dec (1 < ceil_div m b) → Dec (0 < m) → ranged_products b m (ceil_div m b) ≡ m - 1 + powers_products b (halvings (ceil_div m b))
      go (yes more) some =
          rw (lt-leb (ceil_div m b) 1 more, join_products_lem (ceil_div m b) (ceil_div m b) (le_refl (ceil_div m b)) more, halvings-suc (ceil_div m b) more)
          (omega (arith, fewer_blocks more))
      go (no last) (yes some) =
          rw (le-leb (ceil_div m b) 1 (omega arith), halvings-1 (ceil_div m b) (omega arith)) (omega (arith, some_block some))
      go (no last) (no none) =
          rw (le-leb (ceil_div m b) 1 (omega arith), halvings-1 (ceil_div m b) (omega arith)) (omega arith)

  pub ranged_weight_lem : (n : ℕ) → ranged_weight b n m ≡ horner_weight n m + powers_products b (halvings (ceil_div m b)) * n
  unfolding ranged_weight horner_weight
  ranged_weight_lem n = rw (ranged_products_lem, add-mul)

  pub few_rounds : m ≤ limit → halvings (ceil_div m b) ≤ 12
  few_rounds short =
      by_contra (halvings (ceil_div m b)) 12 λ many.
      omega (arith, (ceil_div-below positive m limit).0 (halvings-least (ceil_div m b) 12 many), mul-le-mul_left limit positive)

pub few-products : (b rounds : ℕ) → b ≤ longest_block → rounds ≤ 12 → powers_products b rounds ≤ 50
unfolding powers_products
few-products b zero short few = omega arith
few-products b (suc rounds) short few = omega (arith, power-products-few b short)
