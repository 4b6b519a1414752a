-- A list woven from the products of the even places, of the odd places and of the sums of neighbours.
--
--   delayed o           the sequence o, one place later
--   woven_at p e o m     place 2 i is e_i + o_(i-1), and place 2 i + 1 is m_i - e_i - o_i, modulo p
--   places_from l a      the sequence that a list holds from a place on
--   woven p even a odd b sums c   the same of lists that hold the three
--   woven-even woven-odd   its places
--   Woven               what `weave` requires: the three hold numbers below p
--   Weaving z₀ z before i   i turns of its loop are done, and `before` is the odd product's last place read
--   weaving_first weaving_next    before the first turn, and after one more
--   weaving_before      `before` is below p
--   weaving_odd weaving_even    after the last turn the list is woven; if n is odd, with one place more
-- Assumes nothing.
use Prim.Native.Nat.{ℕ, zero, suc, ◌+◌, ◌-◌, ◌*◌, ◌/◌, ◌%◌, ◌<◌, ◌≤◌}
use Rattle.std.proofs.Math.Nat.{mul-mod_right, mul-div_cancel_left}
use Rattle.std.proofs.Common.{add-one, ◌∙◌}
use native.Mathlib.Omega.{arith}
use Rattle.std.specs.Prelude.{cond, List, ◌≡◌, eqb, length, get_or, set}
use Rattle.std.proofs.Math.Path.{refl}
use Rattle.std.proofs.lemmas.List.Edits.{sets}
use Rattle.algebra.specs.Alternate.{0<2}
use Rattle.definition.specs.KinoshitaLi.{negative}
use Rattle.definition.specs.Lists.{coefficient, tabulate}
use Rattle.buffer.specs.Filling.{Filling, filling_first, filling_last, filling_next}

unfoldable pub delayed : (ℕ → ℕ) → ℕ → ℕ
delayed o zero = 0
delayed o (suc i) = o i

unfoldable pub woven_at : ℕ → (ℕ → ℕ) → (ℕ → ℕ) → (ℕ → ℕ) → ℕ → ℕ
woven_at p e o m k =
    cond (eqb (k % 2) 0)
    ((e (k / 2) + delayed o (k / 2)) % p)
    (((m (k / 2) + negative p (e (k / 2))) % p + negative p (o (k / 2))) % p)

module _ (p : ℕ) (e o m : ℕ → ℕ) (i : ℕ) where
  pub woven-even : woven_at p e o m (2 * i) ≡ (e i + delayed o i) % p
  unfolding woven_at
  woven-even = rw (mul-mod_right, mul-div_cancel_left i 0<2)

  pub woven-odd : woven_at p e o m (2 * i + 1) ≡ ((m i + negative p (e i)) % p + negative p (o i)) % p
  unfolding woven_at
  woven-odd =
      let r : (2 * i + 1) % 2 ≡ 1 = omega arith in
      let q : (2 * i + 1) / 2 ≡ i = omega arith in
      rw (r, q)

abbrev pub places_from : List ℕ → ℕ → ℕ → ℕ
places_from l a k = coefficient l (a + k)

abbrev pub woven : ℕ → List ℕ → ℕ → List ℕ → ℕ → List ℕ → ℕ → ℕ → ℕ
woven p even a odd b sums c = woven_at p (places_from even a) (places_from odd b) (places_from sums c)

pub record Woven (p n : ℕ) (even : List ℕ) (a : ℕ) (odd : List ℕ) (b : ℕ) (sums : List ℕ) (c : ℕ) (z : List ℕ) (at : ℕ) : Type 0 where
  pub modulus : 0 < p
  pub evens : a + (n - n / 2) ≤ length even
  pub odds : b + n / 2 ≤ length odd
  pub folds : c + n / 2 ≤ length sums
  pub target : at + n ≤ length z
  pub even-small : (k : ℕ) → k < n - n / 2 → places_from even a k < p
  pub odd-small : (k : ℕ) → k < n / 2 → places_from odd b k < p
  pub fold_small : (k : ℕ) → k < n / 2 → places_from sums c k < p

-- i turns are done, and `before` is the last place of the odd product that was read
module _ (p n : ℕ) (even : List ℕ) (a : ℕ) (odd : List ℕ) (b : ℕ) (sums : List ℕ) (c at : ℕ) where
  pub record Weaving (z₀ z : List ℕ) (before i : ℕ) : Type 0 where
    pub filling : Filling (woven p even a odd b sums c) at n z₀ z (2 * i)
    pub held : before ≡ delayed (places_from odd b) i

  pub weaving_first : (z : List ℕ) → Weaving z z 0 0
  unfolding delayed
  weaving_first z = record { filling = filling_first (woven p even a odd b sums c) at n z; held = refl }

module _ {p n : ℕ} {even : List ℕ} {a : ℕ} {odd : List ℕ} {b : ℕ} {sums : List ℕ} {c at : ℕ} {z₀ z : List ℕ} {before i : ℕ}
    (weaving : Weaving p n even a odd b sums c at z₀ z before i) where
  pub weaving_before : Woven p n even a odd b sums c z₀ at → before < p
  unfolding delayed
  weaving_before ready = rw weaving.held (go i (omega (arith, weaving.filling.few)))
    where
      go : (j : ℕ) → 2 * j ≤ n → delayed (places_from odd b) j < p
      go zero h = ready.modulus
      go (suc j) h = ready.odd-small j (omega arith)

  module _ {v : ℕ} (first : v ≡ (get_or even (a + i) 0 + before) % p) where
    next-even : 2 * i < n → Filling (woven p even a odd b sums c) at n z₀ (set z (at + 2 * i) v) (2 * i + 1)
    unfolding coefficient
    next-even h = filling_next weaving.filling h (first ∙ rw (weaving.held, woven-even))

    pub weaving_odd : 2 * i + 1 ≡ n → set z (at + 2 * i) v ≡ sets z₀ at (tabulate n (woven p even a odd b sums c))
    weaving_odd e = filling_last (next-even (omega arith)) (omega arith)

    pub weaving_next : {w : ℕ} → i < n / 2
        → w ≡ ((get_or sums (c + i) 0 + negative p (get_or even (a + i) 0)) % p + negative p (get_or odd (b + i) 0)) % p
        → Weaving p n even a odd b sums c at z₀ (set (set z (at + 2 * i) v) (at + 2 * i + 1) w) (get_or odd (b + i) 0) (i + 1)
    unfolding delayed coefficient
    weaving_next {w} below second =
        let twice : 2 * (i + 1) ≡ 2 * i + 1 + 1 = omega arith in
        let place : at + 2 * i + 1 ≡ at + (2 * i + 1) = omega arith in
        record {
          filling = rw (twice, place) (filling_next (next-even (omega arith)) (omega arith) (second ∙ rw woven-odd));
          held = rw add-one;
        }

  pub weaving_even : 2 * i ≡ n → z ≡ sets z₀ at (tabulate n (woven p even a odd b sums c))
  weaving_even e = filling_last weaving.filling (omega arith)
