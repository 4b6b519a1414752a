-- Horner's rule on places of the work buffer: document 004, Algorithm 1, cut to n places. The coefficients of f are taken from the top one down, each of the
-- lower ones in a turn, by step (a) and step (b). While i are left, those from place i on are taken.
--
--   PartOperands p n f b t w   what `horner_part` requires: G at the n places from b on, and 2 n places from t on apart from them
--   Part                       the contract of `horner_part`
--   Running                    before each turn: the coefficients from place i on are taken
--   operands_next inside       the places of a turn
--   after-a                    after step (a) the running value is g times the composition of the coefficients taken so far
--   running-small              the weight of one product more fits a word
--   top_put                    the top coefficient is put
--   operands-put               the operands once the top coefficient is put
--   running-first              the top coefficient
--   running_last               all coefficients
-- Assumes nothing.
use Rattle.std.specs.Prelude.{ℕ, suc, ◌+◌, ◌-◌, ◌*◌, ◌%◌, ◌<◌, ◌≤◌, ◌≡◌, List, get_or, drop}
use Rattle.std.proofs.Common.{add-zero, arith, ap, ◌∙◌, get_or-drop}
use Rattle.std.proofs.Math.Nat.{le_refl, mul-le-mul, suc-mul, zero-add}
use Rattle.std.proofs.Math.ListN.{length, length-drop}
use Rattle.std.proofs.lemmas.List.Edits.{sets}
use Rattle.algebra.specs.Composition.{composed-constant}
use Rattle.algebra.specs.Lists.{length-tabulate}
use Rattle.definition.specs.Lists.{coefficient, tabulate}
use Rattle.definition.specs.Refusal.{limit}
use Rattle.definition.specs.Substitution.{composed, constant, cut_product}
use Rattle.definition.specs.Weight.{horner_weight}
use Rattle.horner.specs.Steps.{Taken}
use Rattle.buffer.specs.Segments.{segment, Apart, apart-length, apart-within}
use Rattle.buffer.specs.Turns.{running-apart, running-inside, running_last_place, running_place}
use Rattle.product.specs.Single.{Operands, multiplied-value}
use Rattle.route.specs.Table.{written-table}
use Rattle.buffer.specs.Within.{Within, segment-within, within_refl, within-sets, within_trans}

pub record PartOperands (p n : ℕ) (f : List ℕ) (b t : ℕ) (w : List ℕ) : Type 0 where
  pub modulus : 0 < p
  pub positive : 0 < n
  pub order : n ≤ limit
  pub outer : length f ≤ limit
  pub inner : Apart w b n t (2 * n)

pub record Part (p n : ℕ) (f : List ℕ) (b t : ℕ) (before after : List ℕ) (result : ℕ) : Type 0 where
  pub within : Within t (2 * n) before after
  pub value : segment after t n ≡ composed p n f (segment before b n)
  pub sum : result ≡ horner_weight n (length f)

pub record Running (p n : ℕ) (f : List ℕ) (b t : ℕ) (before now : List ℕ) (i weight : ℕ) : Type 0 where
  pub within : Within t (2 * n) before now
  pub value : segment now (running_place n t i) n ≡ composed p n (drop i f) (segment before b n)
  pub rest : i ≤ length f - 1
  pub sum : weight + i * n ≡ horner_weight n (length f)

module _ {p n : ℕ} {f : List ℕ} {b t : ℕ} {w : List ℕ} (o : PartOperands p n f b t w) where
  pub running-small : {i weight : ℕ} {u : List ℕ} → Running p n f b t w u (suc i) weight → weight + n ≤ limit * limit
  unfolding horner_weight
  running-small {i} r =
      omega (arith, r.sum, suc-mul i n, mul-le-mul {n₁ = length f - 1} {n₂ = limit} {m₂ = limit} (omega (arith, o.outer)) o.order)

  -- a turn: the next coefficient stands at place i of f, and the running value goes from one place to the other
  module _ (i : ℕ) {from to : ℕ} (leaves : from ≡ running_place n t (suc i)) (comes : to ≡ running_place n t i) where
    pub inside : (t ≤ to) × (to + n ≤ t + 2 * n)
    inside = rw comes (running-inside n t i)

    pub operands_next : {v : List ℕ} → length v ≡ length w → Operands p n from b to v
    operands_next e = record {
      modulus = o.modulus;
      order = omega (arith, o.order);
      left = record {
        source = omega (arith, leaves, (running-inside n t (suc i)).1, o.inner.target);
        target = omega (arith, inside.1, o.inner.target);
        apart = rw (leaves, comes) (running-apart n t i);
      };
      right = apart-length e (apart-within o.inner (le_refl b) (le_refl (b + n)) inside.0 inside.1);
    }

    -- u is the buffer before the turn, v after it
    module _ {weight result : ℕ} {u v : List ℕ} (r : Running p n f b t w u (suc i) weight) (step : Taken p n (get_or f i 0) from b to u v result) where
      abbrev inner : List ℕ
      inner = segment w b n

      abbrev taken : List ℕ
      taken = drop (suc i) f

      pub after-a : segment step.between to n ≡ cut_product p n (composed p n taken inner) inner
      after-a =
          multiplied-value step.multiplied (omega (arith, inside.1, o.inner.target, r.within.size))
          ∙ rw (leaves, r.value, segment-within r.within b n o.inner.apart)

-- the top coefficient, as the code finds it and its place
pub top_put : (p n t : ℕ) (f w : List ℕ) {i c r : ℕ} {v : List ℕ} → i ≡ length f - 1 → c ≡ coefficient f i → r ≡ running_place n t i
    → v ≡ sets w r (tabulate n (constant (c % p)))
    → v ≡ sets w (running_place n t (length f - 1)) (tabulate n (constant (coefficient f (length f - 1) % p)))
top_put p n t f w last value place put = put ∙ rw (place, value, last)

-- the first turn begins with the top coefficient; w is the buffer before it is put, v after
module _ {p n : ℕ} {f : List ℕ} {b t : ℕ} {w : List ℕ} (o : PartOperands p n f b t w) {v : List ℕ}
    (put : v ≡ sets w (running_place n t (length f - 1)) (tabulate n (constant (coefficient f (length f - 1) % p)))) where
  top_within : Within t (2 * n) w v
  top_within =
      rw put
      (within-sets w (running_place n t (length f - 1)) (tabulate n (constant (coefficient f (length f - 1) % p))) (running-inside n t (length f - 1)).0
      (rw length-tabulate (running-inside n t (length f - 1)).1))

  pub operands-put : PartOperands p n f b t v
  operands-put = record {
    modulus = o.modulus;
    positive = o.positive;
    order = o.order;
    outer = o.outer;
    inner = apart-length top_within.size o.inner;
  }

  pub running-first : Running p n f b t v v (length f - 1) 0
  unfolding coefficient horner_weight
  running-first = record {
    within = within_refl t (2 * n) v;
    value =
        top
        ∙ rw (← first)
        (composed-constant p n (drop (length f - 1) f) (segment v b n) (rw length-drop (omega arith)));
    rest = le_refl (length f - 1);
    sum = zero-add ((length f - 1) * n);
  }
    where
      top : segment v (running_place n t (length f - 1)) n ≡ tabulate n (constant (coefficient f (length f - 1) % p))
      top =
          rw put
          (written-table w (running_place n t (length f - 1)) (constant (coefficient f (length f - 1) % p)) n
          (omega (arith, (running-inside n t (length f - 1)).1, o.inner.target)))

      first : coefficient (drop (length f - 1) f) 0 ≡ coefficient f (length f - 1)
      first = rw add-zero at (get_or-drop (length f - 1) f 0 0)

  pub running_last : {weight : ℕ} {u : List ℕ} → Running p n f b t v u 0 weight → Part p n f b t w u weight
  running_last {weight} {u} r = record {
    within = within_trans top_within r.within;
    value = rw running_last_place at r.value ∙ ap (composed p n f) (segment-within top_within b n o.inner.apart);
    sum = omega (arith, r.sum);
  }
