-- The least power from 1 on with a non-zero coefficient. Assumes nothing.
--
--   valuation-positive   the valuation is above 0
--   valuation-zero       the coefficients from 1 up to it are 0
--   valuation-nonzero    the coefficient there is not 0, if it is below n
use Rattle.std.specs.Prelude.{ℕ, zero, suc, ◌+◌, ◌-◌, ◌<◌, ◌≤◌, Bool, true, false, cond, List, ◌≢◌, ◌≡◌, refl, eqb}
use Rattle.std.proofs.lemmas.Bool.{eqb-false}
use Rattle.std.proofs.Common.{eqb-true, arith}
use Rattle.std.proofs.Math.Decide.{ℕ_discrete}
use Rattle.definition.specs.Lists.{coefficient}
use Rattle.definition.specs.Taylor.{least_power, valuation}

-- r is the least of the k powers from i on with a non-zero coefficient, or i + k
record Least (k i : ℕ) (g : List ℕ) (r : ℕ) : Type 0 where
  from : i ≤ r
  zeros : (j : ℕ) → i ≤ j → j < r → coefficient g j ≡ 0
  nonzero : r < i + k → coefficient g r ≢ 0

least : (k i : ℕ) (g : List ℕ) → Least k i g (least_power k i g)
unfolding least_power
least zero i g = record { from = omega arith; zeros = λ j a b. absurd (omega arith); nonzero = λ b. absurd (omega arith) }
least (suc k) i g = go (eqb (coefficient g i) 0) refl (least k (suc i) g)
  where
    go : (b : Bool) → eqb (coefficient g i) 0 ≡ b → Least k (suc i) g (least_power k (suc i) g)
        → Least (suc k) i g (cond b (least_power k (suc i) g) i)
    go true e r = record {
      from = omega arith;
      zeros = λ j a b. at j a b (ℕ_discrete j i);
      nonzero = λ b. r.nonzero (omega arith);
    }
      where
        at : (j : ℕ) → i ≤ j → j < least_power k (suc i) g → Dec (j ≡ i) → coefficient g j ≡ 0
        at j a b (yes s) = rw s (eqb-true (coefficient g i) 0 e)
        at j a b (no s) = r.zeros j (omega arith) b
    go false e r = record {
      from = omega arith;
      zeros = λ j a b. absurd (omega arith);
      nonzero = λ b. eqb-false (coefficient g i) 0 e;
    }

module _ (n : ℕ) (g : List ℕ) where
  -- the powers from 1 to n - 1
  rule : Least (n - 1) 1 g (valuation n g)
  unfolding valuation
  rule = least (n - 1) 1 g

  pub valuation-positive : 0 < valuation n g
  valuation-positive = rule.from

  pub valuation-zero : (j : ℕ) → 0 < j → j < valuation n g → coefficient g j ≡ 0
  valuation-zero = rule.zeros

  pub valuation-nonzero : valuation n g < n → coefficient g (valuation n g) ≢ 0
  valuation-nonzero b = rule.nonzero (omega (arith, valuation-positive))
