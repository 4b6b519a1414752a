-- Newton's step in the lent buffers.
--
--   ValuePut      the contract of `put_value`
--   StepLent      what `step` requires
--   Reversed      and what it ensures
--   value_lent    an outer list that is cut asks for no more work
--   value-put     and cut to n places it has the same value, where the inner list has no constant term
--   rule          the places of a difference, with those of w from t on
--   subtract_next subtract_last   one place more of it is written, and the last
--   step-constant-free   what `put_value` requires
--   step-operands        and what the product does, of factors that begin in the first places
--   stepped       what `step` leaves, from what its calls leave
-- Assumes nothing.
use Rattle.std.specs.Prelude.{ℕ, ◌+◌, ◌*◌, ◌-◌, ◌%◌, ◌<◌, ◌≤◌, min, List, ◌++◌, ◌≡◌, length, get_or, set, take, drop}
use Rattle.std.proofs.Math.Decide.{dec_le}
use Rattle.std.proofs.Common.{le_of_eq, le_refl, arith, inl, ◌∙◌, length-take, get_or-take, take_all}
use Rattle.std.proofs.Math.Nat.{min-eq_left, min-eq_right, zero-add}
use Rattle.std.proofs.Math.Path.{sym}
use Rattle.std.proofs.Math.ListN.{length-drop}
use Rattle.std.proofs.lemmas.List.Edits.{sets}
use Rattle.algebra.specs.Composition.{composed-outer}
use Rattle.algebra.specs.Lists.{length-tabulate}
use Rattle.buffer.specs.Filling.{Filling, filling_last, filling_next}
use Rattle.buffer.specs.Written.{get_or-sets-after, sets-whole}
use Rattle.definition.specs.KinoshitaLi.{negative}
use Rattle.definition.specs.Lists.{coefficient, tabulate}
use Rattle.definition.specs.Refusal.{compose_work}
use Rattle.definition.specs.Reversion.{Reversion}
use Rattle.definition.specs.Substitution.{composed, cut_product}
use Rattle.buffer.specs.Segments.{Apart, segment, coefficient-segment, segment-kept, segment-segment}
use Rattle.product.specs.Single.{Multiplied, Operands, multiplied-value, multiplied-within}
use Rattle.newton_step.specs.Newton.{correction, derivative, difference, difference_at, newton_reversion}
use Rattle.route.specs.Contract.{Lent, Route, lent_less}
use Rattle.buffer.specs.Within.{Within, rest_back, rest-lent, segment-sets, within-sets, within_trans, within_wider}

pub record ValuePut (p : ℕ) (g h before after : List ℕ) : Type 0 where
  pub value : segment after 0 (length h) ≡ composed p (length h) g h
  pub within : Within 0 (compose_work (length h) (length g)) before after

pub record StepLent (p half : ℕ) (g h w : List ℕ) : Type 0 where
  pub above-one : 1 < p
  pub several : 1 < half
  pub fits : half ≤ length h
  pub far : length h < 2 * half
  pub known : Reversion p half g (take half h)
  pub lent : Lent p (length h) (length g) (length w)

pub record Reversed (p n : ℕ) (g h before after : List ℕ) : Type 0 where
  pub reverses : Reversion p n g h
  pub within : Within 0 (compose_work n (length g)) before after

-- the value

cut_smaller : (n : ℕ) (g : List ℕ) → take (min n (length g)) g ≡ take n g
cut_smaller n g = at (dec_le n (length g))
  where
    at : Dec (n ≤ length g) → take (min n (length g)) g ≡ take n g
    at (yes b) = rw (min-eq_left b)
    at (no b) = rw (min-eq_right {n = length g} {m = n} (omega arith), take_all (length g) g (le_refl _), take_all n g (omega arith))

module _ {p : ℕ} (g h w : List ℕ) (lent : Lent p (length h) (length g) (length w)) (m : ℕ) where
  few : length (take m g) ≤ length g
  few = rw length-take (omega arith)

  pub value_lent : Lent p (length h) (length (take m g)) (length w)
  value_lent = lent_less lent.positive (le_refl (length h)) few lent

  pub value-put : {after : List ℕ} {weight result : ℕ} → coefficient h 0 ≡ 0 → m ≡ min (length h) (length g)
      → Route p (length h) (take m g) h weight w after result → ValuePut p g h w after
  unfolding coefficient
  value-put constant-free cut route = record {
    value =
        route.value
        ∙ composed-outer lent.modulus (length h) (take m g) g h constant-free
        (λ k b. rw (cut, cut_smaller (length h) g) (get_or-take (length h) g k 0 b));
    within = within_wider (le_refl 0) (omega (arith, few)) route.within;
  }

-- a difference, place by place
module _ (p t : ℕ) (h w : List ℕ) where
  abbrev pub rule : ℕ → ℕ
  rule = difference_at p h (segment w t (length h))

  pub subtract_next : {now : List ℕ} {k v : ℕ} → Filling rule 0 (length h) h now k → k < length h
      → v ≡ (get_or now k 0 + negative p (get_or w (t + k) 0)) % p → Filling rule 0 (length h) h (set now k v) (k + 1)
  unfolding difference_at coefficient
  subtract_next {now} {k} {v} filling below value = rw zero-add at (filling_next filling below (value ∙ same))
    where
      same : (get_or now k 0 + negative p (get_or w (t + k) 0)) % p ≡ rule k
      same =
          rw (
            filling.same,
            get_or-sets-after h 0 (tabulate k rule) k 0 (rw (length-tabulate, zero-add) (le_refl k)),
            ← coefficient-segment w t (length h) k below,
          )

  pub subtract_last : {now : List ℕ} {k : ℕ} → Filling rule 0 (length h) h now k → length h ≤ k
      → now ≡ difference p (length h) h (segment w t (length h))
  unfolding difference
  subtract_last filling past = filling_last filling past ∙ sets-whole h (tabulate (length h) rule) (length-tabulate (length h) rule)

-- a step

module _ {p half : ℕ} (g h w : List ℕ) (lent : StepLent p half g h w) where
  abbrev n : ℕ
  n = length h

  abbrev rest : ℕ
  rest = length h - half

  pub step-constant-free : coefficient h 0 ≡ 0
  unfolding coefficient
  step-constant-free = sym (get_or-take half h 0 0 (omega (arith, lent.several))) ∙ lent.known.no_constant

  part : {a t : ℕ} {v : List ℕ} → a + rest ≤ t → t ≤ 2 * n → length v ≡ length w → Apart v a rest t rest
  part before few size = record {
    source = omega (arith, lent.lent.enough);
    target = omega (arith, lent.lent.enough);
    apart = inl before;
  }

  pub step-operands : {a b : ℕ} {v : List ℕ} → a ≤ n → b ≤ n → length v ≡ length w → Operands p rest a b (2 * n) v
  step-operands left right size = record {
    modulus = lent.lent.modulus;
    order = omega (arith, lent.lent.order);
    left = part (omega arith) (le_refl (2 * n)) size;
    right = part (omega arith) (le_refl (2 * n)) size;
  }

  -- l are the places of h from half on, come back
  pub stepped : {w₁ w₂ w₃ l : List ℕ} {result : ℕ} → ValuePut p g h w w₁ → w₂ ≡ sets w₁ n (derivative p rest h)
      → Multiplied p rest half n (2 * n) w₂ w₃ result
      → l ≡ difference p (length (segment h half rest)) (segment h half rest) (segment w₃ (2 * n) (length (segment h half rest)))
      → Reversed p n g (take half h ++ (l ++ drop rest (drop half h))) w w₃
  unfolding derivative cut_product
  stepped {w₁} {w₂} {w₃} {l} put derived multiplied subtracted = record {
    reverses =
        rw (rest_back half h l, subtracted, rest-lent half h, length-drop, product, order)
        (rw order at
        (newton_reversion lent.lent.modulus rest g h lent.fits lent.above-one lent.several (omega (arith, lent.far)) lent.known));
    within = within_trans put.within (within_trans within-w₂ within-w₃);
  }
    where
      order : half + rest ≡ n
      order = omega (arith, lent.fits)

      within-w₂ : Within 0 (compose_work n (length g)) w₁ w₂
      within-w₂ = rw derived (within-sets w₁ n (derivative p rest h) (omega arith) (rw length-tabulate (omega arith)))

      size : length w₂ ≡ length w
      size = within-w₂.size ∙ put.within.size

      within-w₃ : Within 0 (compose_work n (length g)) w₂ w₃
      within-w₃ = within_wider (omega arith) (omega arith) (multiplied-within multiplied)

      apart : Apart w₁ half rest n rest
      apart = part (le_of_eq order) (omega arith) put.within.size

      left : segment w₂ half rest ≡ segment (composed p (half + rest) g h) half rest
      left =
          rw (derived, segment-kept apart (derivative p rest h) (rw length-tabulate (le_refl rest)), order, ← put.value)
          (sym (rw zero-add at (segment-segment w₁ 0 n half rest (omega arith))))

      right : segment w₂ n rest ≡ derivative p rest h
      right = rw derived (segment-sets w₁ n (derivative p rest h) rest (length-tabulate rest _) apart.target)

      product : segment w₃ (2 * n) rest ≡ correction p half rest g h
      product = multiplied-value multiplied (omega (arith, size, lent.lent.enough)) ∙ rw (left, right)
