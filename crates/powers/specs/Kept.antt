-- The powers of the inner list that the joins need, kept in the work buffer. The inner list stands at place 0, its power g^(b 2^i) at
-- place (i + 1) n.
--
--   Holds p n b g count w   the first `count` powers stand in w
--   powers_products b rounds the products that form g^b, g^(2b), g^(4b) and on, one for each round of joins
--   Squares                 the contract of `squares`: from the first power, whatever power it is, the others
--   Powers                  the contract of `powers`
--   next_place              the place after n more
--   holds-within            a change after the powers keeps them
--   place_bound             the places of the powers fit a word
--   first-operands          what the first power requires
--   squares-operands        what each further squaring requires
--   squares-first squares-next   `squares` before the first turn, and one turn
--   powers-none powers-made   `powers` without a round, and with one or more
-- Assumes nothing.
use Rattle.std.specs.Prelude.{ℕ, zero, suc, ◌+◌, ◌-◌, ◌*◌, ◌^◌, ◌<◌, ◌≤◌, List, ◌≡◌, length}
use Rattle.std.proofs.Math.Decide.{ℕ_discrete}
use Rattle.std.proofs.Common.{add-mul, le_refl, le_trans, mul-le-mul, mul-le-mul_right, mul-one, suc-mul, one-mul, add-one, arith, inl, ap}
use Rattle.std.proofs.lemmas.List.Edits.{sets}
use Rattle.algebra.specs.Bridge.{length-cut_product}
use Rattle.definition.specs.Substitution.{cut_product}
use Rattle.definition.specs.Weight.{power_products}
use Rattle.buffer.specs.Segments.{Apart, segment}
use Rattle.product.specs.Single.{Multiplied, Operands, multiplied-within}
use Rattle.buffer.specs.Within.{Within, segment-sets, segment-within, within_refl, within-sets, within_trans, within_wider}
use Rattle.powers.specs.Binary.{BasePower, PowerOperands}
use Rattle.powers.specs.Powers.{IsPower, doubled, power-product}

pub record Holds (p n b : ℕ) (g : List ℕ) (count : ℕ) (w : List ℕ) : Type 0 where
  pub power : (i : ℕ) → i < count → IsPower p n g (b * 2 ^ i) (segment w ((i + 1) * n) n)

unfoldable pub powers_products : ℕ → ℕ → ℕ
powers_products b zero = 0
powers_products b (suc rounds) = power_products b + rounds

pub record Squares (p n rounds : ℕ) (before after : List ℕ) (result : ℕ) : Type 0 where
  pub within : Within n (rounds * n) before after
  pub value : (b : ℕ) (g : List ℕ) → IsPower p n g b (segment before n n) → Holds p n b g rounds after
  pub sum : result ≡ (rounds - 1) * n

pub record Powers (p n b rounds : ℕ) (before after : List ℕ) (result : ℕ) : Type 0 where
  pub within : Within n ((rounds + 1) * n) before after
  pub value : Holds p n b (segment before 0 n) rounds after
  pub sum : result ≡ powers_products b rounds * n

pub next_place : (n i : ℕ) → (i + 1) * n ≡ i * n + n
next_place n i = rw (add-one, suc-mul)

-- n places from place (i + 1) n on end before place k n, for i + 1 below k
places-before : (n i k : ℕ) → i + 1 < k → (i + 1) * n + n ≤ k * n
places-before n i k below = rw (← suc-mul) (mul-le-mul_right n below)

holds-first : {p n b : ℕ} {g w : List ℕ} → IsPower p n g b (segment w n n) → Holds p n b g 1 w
holds-first {p} {n} {b} {g} {w} value = record { power = at }
  where
    at : (i : ℕ) → i < 1 → IsPower p n g (b * 2 ^ i) (segment w ((i + 1) * n) n)
    at i below =
        let e : i ≡ 0 = omega arith in
        rw (e, mul-one, one-mul) value

pub holds-within : {p n b : ℕ} {g : List ℕ} {count t m : ℕ} {v w : List ℕ} → (count + 1) * n ≤ t → Within t m v w
    → Holds p n b g count v → Holds p n b g count w
holds-within {n = n} {count} low within holds = record {
  power = λ i below.
      rw (segment-within within ((i + 1) * n) n (inl (le_trans (places-before n i (count + 1) (omega arith)) low))) (holds.power i below);
}

holds-next : {p n b : ℕ} {g : List ℕ} {i : ℕ} {w : List ℕ} → 0 < i → (i + 2) * n ≤ length w → Holds p n b g i w
    → Holds p n b g (i + 1) (sets w ((i + 1) * n) (cut_product p n (segment w (i * n) n) (segment w (i * n) n)))
holds-next {i = zero} some room holds = absurd (omega arith)
holds-next {p} {n} {b} {g} {i = suc i} {w} some room holds = record { power = λ k below. at k below (ℕ_discrete k (suc i)) }
  where
    square : List ℕ
    square = cut_product p n (segment w (suc i * n) n) (segment w (suc i * n) n)

    after : List ℕ
    after = sets w ((suc i + 1) * n) square

    size : length square ≡ n
    size = length-cut_product p n (segment w (suc i * n) n) (segment w (suc i * n) n)

    kept : Holds p n b g (suc i) after
    kept =
        holds-within (le_refl ((suc i + 1) * n))
        (within-sets {n = n} w ((suc i + 1) * n) square (le_refl ((suc i + 1) * n)) (rw size (le_refl _))) holds

    next : IsPower p n g (b * 2 ^ suc i) (segment after ((suc i + 1) * n) n)
    next =
        let last = rw add-one at (holds.power i (omega arith)) in
        rw (segment-sets w ((suc i + 1) * n) square n size (le_trans (places-before n (suc i) (suc i + 2) (omega arith)) room), doubled b i)
        (power-product last last)

    at : (k : ℕ) → k < suc i + 1 → Dec (k ≡ suc i) → IsPower p n g (b * 2 ^ k) (segment after ((k + 1) * n) n)
    at k below (yes last) = rw last next
    at k below (no other) = kept.power k (omega arith)

module _ {p n rounds : ℕ} {u : List ℕ} (pre : PowerOperands p n rounds u) where
  pub place_bound : (i : ℕ) → i ≤ 13 → i * n ≤ 53248
  place_bound i few = mul-le-mul few pre.order

  pub first-operands : (rounds ≡ 0 → ⊥) → PowerOperands p n 1 u
  first-operands some = record {
    modulus = pre.modulus;
    order = pre.order;
    few = omega arith;
    room = le_trans (mul-le-mul_right n (omega arith)) pre.room;
  }

  pub squares-operands : {i : ℕ} {v : List ℕ} → length v ≡ length u → 0 < i → i < rounds → Operands p n (i * n) (i * n) ((i + 1) * n) v
  squares-operands {i} {v} size some below =
      let next = next_place n i in
      let room : (i + 1) * n + n ≤ length u = le_trans (places-before n i (rounds + 2) (omega arith)) pre.room in
      let apart : Apart v (i * n) n ((i + 1) * n) n = record { source = omega arith; target = omega arith; apart = inl (omega arith) } in
      record { modulus = pre.modulus; order = omega (arith, pre.order); left = apart; right = apart }

pub squares-first : (p n : ℕ) (w : List ℕ) → Squares p n 1 w w 0
squares-first p n w = record {
  within = within_refl n (1 * n) w;
  value = λ b g value. holds-first value;
  sum = omega arith;
}

pub squares-next : {p n rounds i : ℕ} {u v w : List ℕ} {r s : ℕ} → PowerOperands p n rounds u → 0 < i → i < rounds
    → Squares p n i u v r → Multiplied p n (i * n) (i * n) ((i + 1) * n) v w s → Squares p n (i + 1) u w (r + s)
squares-next {p} {n} {rounds} {i} {u} {v} {w} pre some below before now =
    let next = next_place n i in
    let last : (i + 1 - 1) * n ≡ (i - 1) * n + n = rw (← suc-mul) (ap (λ k. k * n) (omega arith)) in
    let room : (i + 2) * n ≤ length v = rw before.within.size (le_trans (mul-le-mul_right n (omega arith)) pre.room) in
    record {
      within = within_trans (within_wider (le_refl n) (omega arith) before.within) (within_wider (omega arith) (omega arith) (multiplied-within now));
      value = λ b g value. rw now.written (holds-next some room (before.value b g value));
      sum = omega (arith, before.sum, now.places);
    }

pub powers-none : (p n b : ℕ) (w : List ℕ) → Powers p n b 0 w w 0
unfolding powers_products
powers-none p n b w = record {
  within = within_refl n ((0 + 1) * n) w;
  value = record { power = λ i below. absurd (omega arith) };
  sum = omega arith;
}

pub powers-made : {p n b rounds : ℕ} {u v w : List ℕ} {r s : ℕ} → 0 < rounds → BasePower p n b u v r → Squares p n rounds v w s
    → Powers p n b rounds u w (r + s)
unfolding powers_products
powers-made {rounds = zero} some base squares = absurd (omega arith)
powers-made {p} {n} {b} {rounds = suc rounds} {u} some base squares = record {
  within = within_trans (wider 2 (omega arith) base.within) (wider (suc rounds) (omega arith) squares.within);
  value = squares.value b (segment u 0 n) base.value;
  sum =
      let e : suc rounds - 1 ≡ rounds = omega arith in
      rw (base.sum, squares.sum, e, add-mul);
}
  where
    wider : (k : ℕ) {v w : List ℕ} → k ≤ suc rounds + 1 → Within n (k * n) v w → Within n ((suc rounds + 1) * n) v w
    wider k fewer h = within_wider (le_refl n) (omega (arith, mul-le-mul_right n fewer)) h
