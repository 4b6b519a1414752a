-- Horner's rule on places of the work buffer, one turn: from the running value after step (a).
--
--   after-b                    after step (b) it is the composition of these with the next one put before them
--   running-next               one coefficient more is taken
-- Assumes nothing.
use Rattle.std.specs.Prelude.{ℕ, suc, ◌+◌, ◌%◌, ◌≡◌, List, [], ◌∷◌, get_or, drop}
use Rattle.std.proofs.Common.{arith, ◌∙◌, drop-cons}
use Rattle.std.proofs.Math.Nat.{suc-mul}
use Rattle.algebra.specs.Composition.{composed-∷}
use Rattle.definition.specs.Lists.{coefficient}
use Rattle.definition.specs.Substitution.{composed}
use Rattle.horner.specs.Steps.{Taken, constant-added}
use Rattle.buffer.specs.Segments.{segment}
use Rattle.buffer.specs.Turns.{running_place}
use Rattle.product.specs.Single.{multiplied-within}
use Rattle.buffer.specs.Within.{within-sets, within_trans, within_wider}
use Rattle.horner.specs.Part.{PartOperands, Running, after-a, inside}

module _ {p n : ℕ} {f : List ℕ} {b t : ℕ} {w : List ℕ} (o : PartOperands p n f b t w) where
  module _ (i : ℕ) {from to : ℕ} (leaves : from ≡ running_place n t (suc i)) (comes : to ≡ running_place n t i) where
    -- u is the buffer before the turn, v after it
    module _ {weight result : ℕ} {u v : List ℕ} (r : Running p n f b t w u (suc i) weight) (step : Taken p n (get_or f i 0) from b to u v result) where
      abbrev inner : List ℕ
      inner = segment w b n

      abbrev taken : List ℕ
      taken = drop (suc i) f

      abbrev next : ℕ
      next = get_or f i 0

      pub after-b : segment v to n ≡ composed p n (next ∷ taken) inner
      after-b =
          rw step.added
          (constant-added p n next (composed p n taken inner) inner o.positive step.between to (after-a o i leaves comes r step)
          ∙ composed-∷ o.modulus n next taken inner)

      pub running-next : Running p n f b t w v i (weight + result)
      running-next = record {
        within =
            within_trans r.within
            (within_trans
            (within_wider (inside o i leaves comes).0 (inside o i leaves comes).1 (multiplied-within step.multiplied))
            (rw step.added
            (within-sets step.between to (((coefficient step.between to + next) % p) ∷ []) (inside o i leaves comes).0
            (omega (arith, o.positive, (inside o i leaves comes).1)))));
        value = rw (← comes, drop-cons f i 0 (omega (arith, r.rest))) after-b;
        rest = omega (arith, r.rest);
        sum = omega (arith, r.sum, step.multiplied.places, suc-mul i n);
      }
