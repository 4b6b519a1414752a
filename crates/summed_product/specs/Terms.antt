-- The product of two parts of lists, eight rows at a time. Row i is place i of the first part times the second one.
--
--   Padded l c             eight zeros stand before and behind the part c of l
--   values l c             its places as a series, which ends with it
--   Pair                   what `add_product` requires
--   PassAt                 what `add_rows_at` requires
--   Added n m sums sums' high high' f   f t is added to place t, for t below n
--   added_more added_none added-wider   two numbers, one after the other, nothing, and with a larger bound
--   product_of x a y b low t   place low + t of the product
--   rows_of x a y b low i t    what rows i to i + 7 add to it
--   rows_before             and what the rows before i do
--   pair-length            the sums may be others of that length
--   pass_factors           what the pass of eight rows requires
--   pass_rows zero-rows    what it adds
--   rows-first rows_next rows_last   no rows are due before the first, eight more, and no more are due after the last
-- Assumes nothing.
use Prim.Native.Nat.{ℕ, suc, ◌+◌, ◌-◌, ◌*◌, ◌<◌, ◌≤◌, ◌^◌, min}
use Rattle.std.proofs.Math.Decide.{dec_le, dec_lt}
use Rattle.std.proofs.Common.{mul-zero, zero-mul, ◌∙◌}
use native.Mathlib.Omega.{arith}
use Rattle.std.specs.Prelude.{◌≡◌, refl, cond, List, ltb, length}
use Rattle.std.proofs.Math.Path.{sym}
use borrow.Author.Tests.{le-ltb, lt-ltb}
use Rattle.std.proofs.Math.ListN.{get_or}
use Rattle.algebra.specs.Lists.{coefficient_beyond, sum_beyond, sum_cong, sum-zero}
use Rattle.buffer.specs.Segments.{coefficient-segment, length-segment, segment}
use Rattle.definition.specs.Lists.{coefficient, sum}
use Rattle.definition.specs.Substitution.{product, product_term}
use Rattle.rows.specs.Rows.{Below, Factors, More, Passed, more-more, more-none, more-wider, row_term, sum-+}
use Rattle.summed_product.specs.declared.Part.{Part}

pub record Padded (l : List ℕ) (c : Part) : Type 0 where
  pub room : 8 ≤ c.at
  pub fits : c.at + c.count + 8 ≤ length l
  pub before : (k : ℕ) → k < 8 → get_or l (c.at - 8 + k) 0 ≡ 0
  pub behind : (k : ℕ) → k < 8 → get_or l (c.at + c.count + k) 0 ≡ 0

abbrev pub values : List ℕ → Part → ℕ → ℕ
values l c = coefficient (segment l c.at c.count)

pub record Pair (p : ℕ) (x : List ℕ) (a : Part) (y : List ℕ) (b : Part) (low n : ℕ) (sums high : List ℕ) : Type 0 where
  pub left : Padded x a
  pub right : Padded y b
  pub left_below : Below p x
  pub right-below : Below p y
  pub sums-room : n ≤ length sums
  pub high-room : n ≤ length high
  pub few : low + n < 2 ^ 32

pub record PassAt (p : ℕ) (x : List ℕ) (a : Part) (y : List ℕ) (b : Part) (low n i : ℕ) (sums high : List ℕ) : Type 0 where
  pub pair : Pair p x a y b low n sums high
  pub inside : i < a.count
  pub reached : i < low + n
  pub reaches : low < i + 7 + b.count

pub record Added (n m : ℕ) (sums sums' high high' : List ℕ) (f : ℕ → ℕ) : Type 0 where
  pub place : (t : ℕ) → t < n → More m (f t) (get_or sums t 0) (get_or high t 0) (get_or sums' t 0) (get_or high' t 0)

module _ {n m : ℕ} {s s' h h' : List ℕ} {f : ℕ → ℕ} (done : Added n m s s' h h' f) where
  pub added_more : {k : ℕ} {s'' h'' : List ℕ} {g d : ℕ → ℕ} → Added n k s' s'' h' h'' g → ((t : ℕ) → t < n → d t ≡ f t + g t)
      → Added n (m + k) s s'' h h'' d
  added_more next e = record { place = λ t b. rw (e t b) (more-more (done.place t b) (next.place t b)) }

  -- m and eight more
  pub added_eight : {i k : ℕ} {s'' h'' : List ℕ} {g d : ℕ → ℕ} → k ≤ i → m ≡ i - k → Added n 8 s' s'' h' h'' g → ((t : ℕ) → d t ≡ f t + g t)
      → Added n (i + 8 - k) s s'' h h'' d
  added_eight {i} {k} b c next e =
      let same : i + 8 - k ≡ m + 8 = omega arith in
      rw same (added_more next (λ t _. e t))

  pub added-wider : {k : ℕ} {d : ℕ → ℕ} → m ≤ k → ((t : ℕ) → t < n → d t ≡ f t) → Added n k s s' h h' d
  added-wider b e = record { place = λ t c. rw (e t c) (more-wider b (done.place t c)) }

pub added_none : {n m : ℕ} {s h : List ℕ} {f : ℕ → ℕ} → ((t : ℕ) → t < n → f t ≡ 0) → Added n m s s h h f
added_none e = record { place = λ t b. more-none (e t b) refl refl }

-- the places of a list, eight places later
unfoldable pub later : (ℕ → ℕ) → ℕ → ℕ
later f d = cond (ltb d 8) 0 (f (d - 8))

abbrev pub product_of : List ℕ → Part → List ℕ → Part → ℕ → ℕ → ℕ
product_of x a y b low t = product (values x a) (values y b) (low + t)

-- row e at place low + t: nothing where the row begins later
abbrev pub row_at : List ℕ → Part → List ℕ → Part → ℕ → ℕ → ℕ → ℕ
row_at x a y b low t e = values x a e * later (values y b) (low + t + 8 - e)

abbrev pub rows_before : List ℕ → Part → List ℕ → Part → ℕ → ℕ → ℕ → ℕ
rows_before x a y b low i t = sum i (row_at x a y b low t)

abbrev pub rows_of : List ℕ → Part → List ℕ → Part → ℕ → ℕ → ℕ → ℕ
rows_of x a y b low i t = sum 8 (λ k. row_at x a y b low t (i + k))

-- beyond the part it is zero
values_beyond : (l : List ℕ) (c : Part) (i : ℕ) → c.count ≤ i → values l c i ≡ 0
values_beyond l c i h = coefficient_beyond _ i (omega (arith, length-segment l c.at c.count))

module _ {l : List ℕ} {c : Part} (padded : Padded l c) where
  -- up to seven places behind the part as well
  value-at : (i : ℕ) → i < c.count + 8 → get_or l (c.at + i) 0 ≡ values l c i
  unfolding coefficient
  value-at i h = at (dec_lt i c.count)
    where
      at : Dec (i < c.count) → get_or l (c.at + i) 0 ≡ values l c i
      at (yes b) = sym (coefficient-segment l c.at c.count i b)
      at (no b) =
          let e : c.at + i ≡ c.at + c.count + (i - c.count) = omega arith in
          rw (values_beyond l c i (omega arith), e) (padded.behind (i - c.count) (omega arith))

  -- and eight places before it
  later-at : (d : ℕ) → d < c.count + 16 → get_or l (c.at - 8 + d) 0 ≡ later (values l c) d
  unfolding later
  later-at d h = at (dec_lt d 8)
    where
      at : Dec (d < 8) → get_or l (c.at - 8 + d) 0 ≡ later (values l c) d
      at (yes b) = padded.before d b ∙ sym (rw (lt-ltb d 8 b))
      at (no b) =
          let e : c.at - 8 + d ≡ c.at + (d - 8) = omega (arith, padded.room) in
          rw (e, le-ltb d 8 (omega arith)) (value-at (d - 8) (omega arith))

  later_soon : (d : ℕ) → d < 8 → later (values l c) d ≡ 0
  unfolding later
  later_soon d h = rw (lt-ltb d 8 h)

  later-late : (d : ℕ) → c.count + 8 ≤ d → later (values l c) d ≡ 0
  unfolding later
  later-late d h = rw (le-ltb d 8 (omega arith)) (values_beyond l c (d - 8) (omega arith))

later_by_8 : (f : ℕ → ℕ) (k : ℕ) → later f (k + 8) ≡ f k
unfolding later
later_by_8 f k =
    let e : k + 8 - 8 ≡ k = omega arith in
    rw (le-ltb (k + 8) 8 (omega arith), e)

-- the place of y that row i + k takes for place low + t
place_of : (e from at low i : ℕ) → e + (i + 7) ≡ at + (low + from) → i ≤ low + from → 8 ≤ at → (t k : ℕ) → from ≤ t → k < 8
    → e + (t - from) + (8 - 1 - k) ≡ at - 8 + (low + t + 8 - (i + k))
place_of e from at low i h g l t k b c = omega arith

place-below : (to low i count : ℕ) → low + to ≤ i + 7 + count → (t k : ℕ) → t < to → low + t + 8 - (i + k) < count + 16
place-below to low i count h t k b = omega arith

module _ {p : ℕ} {x : List ℕ} {a : Part} {y : List ℕ} {b : Part} {low n : ℕ} {sums high : List ℕ}
    (pair : Pair p x a y b low n sums high) where
  -- rows that begin later, or have ended, add nothing
  row-above : (t e : ℕ) → low + t < e → row_at x a y b low t e ≡ 0
  row-above t e h = rw (later_soon pair.right (low + t + 8 - e) (omega arith), mul-zero)

  row_ended : (t e : ℕ) → e + b.count ≤ low + t → row_at x a y b low t e ≡ 0
  row_ended t e h = rw (later-late pair.right (low + t + 8 - e) (omega arith), mul-zero)

  row-none : (t e : ℕ) → a.count ≤ e → row_at x a y b low t e ≡ 0
  row-none t e h = rw (values_beyond x a e h, zero-mul)

  -- no row before the first one that reaches a place
  pub rows-first : (i t : ℕ) → i ≤ low + 1 - b.count → rows_before x a y b low i t ≡ 0
  rows-first i t h = sum-zero i (row_at x a y b low t) (λ e c. row_ended t e (omega arith))

  pub rows_next : (i t : ℕ) → rows_before x a y b low (i + 8) t ≡ rows_before x a y b low i t + rows_of x a y b low i t
  rows_next i t = sum-+ i 8 (row_at x a y b low t)

  -- no more rows after those that begin before low + n, and those of a
  pub rows_last : (i : ℕ) → min a.count (low + n) ≤ i → (t : ℕ) → t < n → product_of x a y b low t ≡ rows_before x a y b low i t
  unfolding product product_term
  rows_last i past t below = sum_cong (suc k) (product_term (values x a) (values y b) k) (row_at x a y b low t) same ∙ at (dec_le (suc k) i)
    where
      k : ℕ
      k = low + t

      same : (e : ℕ) → e < suc k → product_term (values x a) (values y b) k e ≡ row_at x a y b low t e
      same e h =
          let d : low + t + 8 - e ≡ k - e + 8 = omega arith in
          rw (d, later_by_8 (values y b) (k - e))

      at : Dec (suc k ≤ i) → sum (suc k) (row_at x a y b low t) ≡ sum i (row_at x a y b low t)
      at (yes h) = sym (sum_beyond (suc k) i (row_at x a y b low t) h (λ e c d. row-above t e (omega arith)))
      at (no h) = sum_beyond i (suc k) (row_at x a y b low t) (omega arith) (λ e c d. row-none t e (omega arith))

  pub zero-rows : (i : ℕ) → i < a.count → ((k : ℕ) → k < 8 → get_or x (a.at + i + k) 0 ≡ 0) → (t : ℕ) → rows_of x a y b low i t ≡ 0
  zero-rows i inside zeros t = sum-zero 8 (λ k. row_at x a y b low t (i + k)) (λ k h.
      let u : a.at + i + k ≡ a.at + (i + k) = omega arith in
      rw (← value-at pair.left (i + k) (omega arith), ← u, zeros k h, zero-mul))

  module _ (i : ℕ) (inside : i < a.count) (reached : i < low + n) (reaches : low < i + 7 + b.count) {from to e : ℕ} (first : from ≡ i - low)
      (last : to ≡ min n (i + 7 + b.count - low)) (start : e ≡ b.at + (low + from) - (i + 7)) where
    reachable : i ≤ low + from
    reachable = omega arith

    begins : e + (i + 7) ≡ b.at + (low + from)
    begins = omega (arith, pair.right.room, reachable)

    ends : low + to ≤ i + 7 + b.count
    ends = omega arith

    inside-8 : {k : ℕ} → k < 8 → i + k < a.count + 8
    inside-8 h = omega arith

    pub pass_factors : Factors p 8 from to x (a.at + i) y e sums high
    pass_factors = record {
      ordered = omega arith;
      left = omega (arith, pair.left.fits);
      right = omega (arith, pair.right.fits, pair.right.room);
      left_below = pair.left_below;
      right-below = pair.right-below;
      sums-room = omega (arith, pair.sums-room);
      high-room = omega (arith, pair.high-room);
    }

    pub pass_rows : {sums' high' : List ℕ} → Passed 8 from to x (a.at + i) y e sums sums' high high'
        → Added n 8 sums sums' high high' (rows_of x a y b low i)
    pass_rows {sums'} {high'} passed = record { place = λ t c. at t c (dec_lt t from) (dec_lt t to) }
      where
        term : (t : ℕ) → from ≤ t → t < to → (k : ℕ) → k < 8 → row_term 8 x (a.at + i) y (e + (t - from)) k ≡ row_at x a y b low t (i + k)
        term t c d k h =
            let u : a.at + i + k ≡ a.at + (i + k) = omega arith in
            rw (
              u,
              place_of e from b.at low i begins reachable pair.right.room t k c h,
              value-at pair.left (i + k) (inside-8 h),
              later-at pair.right (low + t + 8 - (i + k)) (place-below to low i b.count ends t k d),
            )

        at : (t : ℕ) → t < n → Dec (t < from) → Dec (t < to)
            → More 8 (rows_of x a y b low i t) (get_or sums t 0) (get_or high t 0) (get_or sums' t 0) (get_or high' t 0)
        at t c (yes d) f =
            more-none (sum-zero 8 (λ k. row_at x a y b low t (i + k)) (λ k h. row-above t (i + k) (omega arith)))
            (passed.before t d).0 (passed.before t d).1
        at t c (no d) (yes f) =
            rw (← sum_cong 8 (row_term 8 x (a.at + i) y (e + (t - from))) (λ k. row_at x a y b low t (i + k)) (term t (omega arith) f))
            (passed.inside t (omega arith) f)
        at t c (no d) (no f) =
            more-none (sum-zero 8 (λ k. row_at x a y b low t (i + k)) (λ k h. row_ended t (i + k) (omega arith)))
            (passed.behind t (omega arith)).0 (passed.behind t (omega arith)).1

pub pair-length : {p : ℕ} {x : List ℕ} {a : Part} {y : List ℕ} {b : Part} {low n : ℕ} {sums high s h : List ℕ} → length s ≡ length sums
    → length h ≡ length high → Pair p x a y b low n sums high → Pair p x a y b low n s h
pair-length e f o = record {
  left = o.left;
  right = o.right;
  left_below = o.left_below;
  right-below = o.right-below;
  sums-room = rw e o.sums-room;
  high-room = rw f o.high-room;
  few = o.few;
}
