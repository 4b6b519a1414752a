-- Newton's iteration by recursion on the order: a step takes a reverse series at one order to one at every order below its double.
--
--   Reversible       what `newton` requires
--   reversed_start   at order 1 or 2
--   half-reversible  an order below n, which is more than half of it, has what the iteration requires
--   step-lent        what the step to n requires after that
--   reversed_step    and what both leave
-- Assumes nothing.
use Rattle.std.specs.Prelude.{ℕ, ◌*◌, ◌<◌, ◌≤◌, false, List, ◌++◌, ◌≢◌, ◌≡◌, length, take, drop}
use Rattle.std.proofs.Common.{le_refl, arith, ◌∙◌, length-append, length-drop, length-take-le, take_at}
use Rattle.definition.specs.Lists.{coefficient}
use Rattle.definition.specs.Prime.{Prime}
use Rattle.definition.specs.Refusal.{exceeds}
use Rattle.newton_step.specs.Step.{Reversed, StepLent}
use Rattle.reversion.specs.Start.{started, started-reversion}
use Rattle.route.specs.Contract.{Lent, lent_less}
use Rattle.buffer.specs.Within.{within_refl, within_trans, within_wider}

pub record Reversible (p : ℕ) (g h w : List ℕ) : Type 0 where
  pub prime : Prime p
  pub below : exceeds p g ≡ false
  pub constant-free : coefficient g 0 ≡ 0
  pub linear : 1 < length h → coefficient g 1 ≢ 0
  pub lent : Lent p (length h) (length g) (length w)

module _ {p : ℕ} (g h w : List ℕ) (r : Reversible p g h w) where
  pub reversed_start : {h' : List ℕ} → length h ≤ 2 → h' ≡ started p (length h) g → Reversed p (length h) g h' w w
  reversed_start few start = record {
    reverses = rw start (started-reversion r.prime g r.below r.constant-free (length h) r.lent.positive few r.linear);
    within = within_refl 0 _ w;
  }

  -- an order below n, whose double is above it
  module _ {half : ℕ} (more : 1 < half) (fits : half < length h) (far : length h < 2 * half) where
    size-half : length (take half h) ≡ half
    size-half = length-take-le half h (omega arith)

    pub half-reversible : Reversible p g (take half h) w
    half-reversible = record {
      prime = r.prime;
      below = r.below;
      constant-free = r.constant-free;
      linear = λ _. r.linear (omega arith);
      lent = rw size-half (lent_less (omega arith) (omega arith) (le_refl (length g)) r.lent);
    }

    module _ {v now : List ℕ} (reversed : Reversed p (length (take half h)) g v w now) where
      size_v : length v ≡ half
      size_v = reversed.reverses.places ∙ size-half

      size : length (v ++ drop half h) ≡ length h
      size = rw (length-append, size_v, length-drop) (omega arith)

      pub step-lent : StepLent p half g (v ++ drop half h) now
      step-lent = record {
        above-one = r.prime.above-one;
        several = more;
        fits = rw size (omega arith);
        far = rw size far;
        known = rw (take_at v (drop half h) half size_v) (rw size-half at reversed.reverses);
        lent = rw (size, reversed.within.size) r.lent;
      }

      pub reversed_step : {h' now' : List ℕ} → Reversed p (length (v ++ drop half h)) g h' now now' → Reversed p (length h) g h' w now'
      reversed_step stepped = record {
        reverses = rw size at stepped.reverses;
        within =
            within_trans (within_wider (omega arith) (rw size-half (omega arith)) reversed.within)
            (rw size at stepped.within);
      }
