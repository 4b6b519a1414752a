-- Rows of the multiplication by hand, added to the sums of the places, each kept in two parts.
--
-- Row j is place j of x times y. A pass adds neighbouring rows at neighbouring places.
--
--   Below b l                  the places of l are below b
--   IsFour f x i               four places of a list, from i on
--   FourBelow PlacesBelow      four such factors, and four places of the other list, below a bound
--   four_below places-below    they are, where all places of the lists are
--   nearer                     fewer places are left after one more
--   Factors b m from to x i y e sums high   what a pass requires: factors below b, with room for m rows
--   row_term rows_sum m x i y e  what m rows add to a place
--   four-rows eight_rows       four and eight products are that
--   sum-+                      a sum in two parts
--   IsTotal m number t         a number in two parts, of which one wraps
--   total_four                 four products in such parts
--   Kept v c s h               a number in two such parts, one too small by little
--   kept-none kept-wider kept_double   0, with a larger bound, and doubled
--   More m number s h s' h'    kept, and with another number added kept again
--   more_total                 so it is after such parts are added
--   more-more more-none more-wider   added twice, nothing added, and with a larger bound
--   Passed                     the contract of a pass
--   passed_none passed-next    before the first place, and after one more
--   factors_eight factors-four passed_eight   eight rows at once where the factors are below 2^31, or four and four
-- Assumes nothing.
use Rattle.std.specs.Prelude.{◌≡◌, ℕ, zero, suc, ◌+◌, ◌-◌, ◌*◌, ◌/◌, ◌%◌, ◌^◌, ◌<◌, ◌≤◌, ◌≢◌, List, length, slice_index, slice_index_or, slice_set}
use Rattle.std.proofs.Math.Decide.{dec_lt}
use Rattle.std.proofs.Common.{add_assoc, add-mul, add-suc, add-zero, le_refl, mod-eq_of_lt, mul-le-mul_right, sym, ap₂, ◌∙◌, get_or-set_same, get_or-set_other}
use Rattle.std.proofs.Math.Nat.{add-mod}
use native.Mathlib.Omega.{arith}
use Rattle.std.proofs.Math.Path.{refl}
use Rattle.algebra.specs.Lists.{sum_cong}
use Rattle.definition.specs.Lists.{sum}
use Rattle.rows.specs.declared.Four.{Four}
use Rattle.rows.specs.declared.Total.{Total}

pub record Below (b : ℕ) (l : List ℕ) : Type 0 where
  pub place : (j : ℕ) → slice_index l j < b

-- the four places from i on
pub record IsFour (f : Four) (x : List ℕ) (i : ℕ) : Type 0 where
  pub first : f.a ≡ slice_index x i
  pub second : f.b ≡ slice_index x (i + 1)
  pub third : f.c ≡ slice_index x (i + 2)
  pub fourth : f.d ≡ slice_index x (i + 3)

pub record FourBelow (m : ℕ) (f : Four) : Type 0 where
  pub first : f.a < m
  pub second : f.b < m
  pub third : f.c < m
  pub fourth : f.d < m

pub four_below : {m i : ℕ} {f : Four} {x : List ℕ} → Below m x → IsFour f x i → FourBelow m f
four_below {m} {i} h f = record {
  first = rw f.first (h.place i);
  second = rw f.second (h.place (i + 1));
  third = rw f.third (h.place (i + 2));
  fourth = rw f.fourth (h.place (i + 3));
}

pub record PlacesBelow (m : ℕ) (y : List ℕ) (e : ℕ) : Type 0 where
  pub inside : e + 3 < length y
  pub place3 : slice_index_or y (e + 3) 0 < m
  pub place2 : slice_index_or y (e + 2) 0 < m
  pub place1 : slice_index_or y (e + 1) 0 < m
  pub place0 : slice_index_or y e 0 < m

pub places-below : {m : ℕ} {y : List ℕ} → Below m y → (e : ℕ) → e + 3 < length y → PlacesBelow m y e
places-below h e inside = record {
  inside = inside;
  place3 = h.place (e + 3);
  place2 = h.place (e + 2);
  place1 = h.place (e + 1);
  place0 = h.place e;
}

-- the places left, one later
pub nearer : {n t : ℕ} → t < n → n - (t + 1) < n - t
nearer h = omega arith

-- four products, the places of y taken downwards
abbrev pub four_products : Four → List ℕ → ℕ → ℕ
four_products f y e = f.a * slice_index y (e + 3) + f.b * slice_index y (e + 2) + f.c * slice_index y (e + 1) + f.d * slice_index y e

-- a number as its remainder modulo 2^64 and a count of 2^32 that falls short of it by at most m times 2^32 - 1
pub record IsTotal (m number : ℕ) (t : Total) : Type 0 where
  pub wraps : t.wrapped ≡ number % 2 ^ 64
  pub lower : 2 ^ 32 * t.high ≤ number
  pub upper : number ≤ 2 ^ 32 * t.high + m * (2 ^ 32 - 1)
  pub few : t.high ≤ m * (2 ^ 32 - 1)

high_half : {a : ℕ} → a < 2 ^ 64 → a / 2 ^ 32 ≤ 2 ^ 32 - 1
high_half h = omega arith

four-small : {a b c d m : ℕ} → a ≤ m → b ≤ m → c ≤ m → d ≤ m → a + b + c + d ≤ 4 * m
four-small f g h k = omega arith

pub total_four : {a b c d : ℕ} → a < 2 ^ 64 → b < 2 ^ 64 → c < 2 ^ 64 → d < 2 ^ 64 → {t : Total}
    → t.wrapped ≡ ((a + b) % 2 ^ 64 + (c + d) % 2 ^ 64) % 2 ^ 64
    → t.high ≡ a / 2 ^ 32 + b / 2 ^ 32 + c / 2 ^ 32 + d / 2 ^ 32
    → IsTotal 4 (a + b + c + d) t
total_four {a} {b} {c} {d} f g h k w u = record {
  wraps = rw (w, ← add-mod, add_assoc (a + b) c d);
  lower = rw u (omega arith);
  upper = rw u (omega arith);
  few = rw u (four-small (high_half f) (high_half g) (high_half h) (high_half k));
}

pub record Factors (b m from to : ℕ) (x : List ℕ) (i : ℕ) (y : List ℕ) (e : ℕ) (sums high : List ℕ) : Type 0 where
  pub ordered : from ≤ to
  pub left : i + m ≤ length x
  pub right : e + (to - from) + m ≤ length y
  pub left_below : Below b x
  pub right-below : Below b y
  pub sums-room : to ≤ length sums
  pub high-room : to ≤ length high

-- what m rows add to a place, one place of y after the other downwards, to place e
abbrev pub row_term : ℕ → List ℕ → ℕ → List ℕ → ℕ → ℕ → ℕ
row_term m x i y e k = slice_index x (i + k) * slice_index y (e + (m - 1 - k))

abbrev pub rows_sum : ℕ → List ℕ → ℕ → List ℕ → ℕ → ℕ
rows_sum m x i y e = sum m (row_term m x i y e)

four : (i : ℕ) (f : ℕ → ℕ) → sum (i + 4) f ≡ sum i f + (f i + f (i + 1) + f (i + 2) + f (i + 3))
unfolding sum
four i f =
    let a : i + 4 ≡ suc (i + 3) = omega arith in
    let b : i + 3 ≡ suc (i + 2) = omega arith in
    let c : i + 2 ≡ suc (i + 1) = omega arith in
    let d : i + 1 ≡ suc i = omega arith in
    rw a (rw b (rw c (rw d (omega arith))))

module _ (x y : List ℕ) (i e : ℕ) where
  term-at : (m k : ℕ) {a b : ℕ} → i + k ≡ a → e + (m - 1 - k) ≡ b → row_term m x i y e k ≡ slice_index x a * slice_index y b
  term-at m k f g = rw (f, g)

  pub four-rows : {f : Four} → IsFour f x i → four_products f y e ≡ rows_sum 4 x i y e
  unfolding sum
  four-rows {f} is = rw (is.first, is.second, is.third, is.fourth) (sym whole)
    where
      whole : rows_sum 4 x i y e ≡ slice_index x i * slice_index y (e + 3) + slice_index x (i + 1) * slice_index y (e + 2) + slice_index x (i + 2) * slice_index y (e + 1)
          + slice_index x (i + 3) * slice_index y e
      whole =
          four 0 (row_term 4 x i y e)
          ∙ omega (
            arith,
            term-at 4 0 {a = i} {b = e + 3} (omega arith) (omega arith),
            term-at 4 1 {b = e + 2} refl (omega arith),
            term-at 4 2 {b = e + 1} refl (omega arith),
            term-at 4 3 {b = e} refl (omega arith),
          )

  pub eight_rows : {f g : Four} → IsFour f x i → IsFour g x (i + 4) → four_products f y (e + 4) + four_products g y e ≡ rows_sum 8 x i y e
  unfolding sum
  eight_rows {f} {g} is js =
      rw (is.first, is.second, is.third, is.fourth, js.first, js.second, js.third, js.fourth)
      (sym (four 4 (row_term 8 x i y e) ∙ omega (
        arith,
        four 0 (row_term 8 x i y e),
        term-at 8 0 {a = i} {b = e + 4 + 3} (omega arith) (omega arith),
        term-at 8 1 {b = e + 4 + 2} refl (omega arith),
        term-at 8 2 {b = e + 4 + 1} refl (omega arith),
        term-at 8 3 {b = e + 4} refl (omega arith),
        term-at 8 4 {b = e + 3} refl (omega arith),
        term-at 8 5 {a = i + 4 + 1} {b = e + 2} (omega arith) (omega arith),
        term-at 8 6 {a = i + 4 + 2} {b = e + 1} (omega arith) (omega arith),
        term-at 8 7 {a = i + 4 + 3} {b = e} (omega arith) (omega arith),
      )))

pub sum-+ : (m n : ℕ) (f : ℕ → ℕ) → sum (m + n) f ≡ sum m f + sum n (λ k. f (m + k))
unfolding sum
sum-+ m zero f = rw (add-zero, add-zero)
sum-+ m (suc n) f = rw (add-suc, sum-+ m n f) (add_assoc _ _ _)

-- eight rows are four and four
eight_of_four : (x y : List ℕ) (i e : ℕ) → rows_sum 8 x i y e ≡ rows_sum 4 x i y (e + 4) + rows_sum 4 x (i + 4) y e
eight_of_four x y i e =
    sum-+ 4 4 (row_term 8 x i y e)
    ∙ ap₂ ◌+◌ (sum_cong 4 _ (row_term 4 x i y (e + 4)) (λ k h. term-at x y i e 8 k refl (omega arith)))
    (sum_cong 4 _ (row_term 4 x (i + 4) y e) (λ k h. term-at x y i e 8 (4 + k) (omega arith) (omega arith)))

-- a number v, kept as its remainder modulo 2^64 and a count of 2^32 that falls short of it by at most c times 2^32 - 1
pub record Kept (v c s h : ℕ) : Type 0 where
  pub wraps : s ≡ v % 2 ^ 64
  pub lower : 2 ^ 32 * h ≤ v
  pub upper : v ≤ 2 ^ 32 * h + c * (2 ^ 32 - 1)
  pub few : h ≤ c * (2 ^ 32 - 1)

pub kept-none : Kept 0 0 0 0
kept-none = record { wraps = omega arith; lower = omega arith; upper = omega arith; few = omega arith }

pub kept-wider : {v c d s h : ℕ} → c ≤ d → Kept v c s h → Kept v d s h
kept-wider {c = c} {d} b k =
    let more : c * (2 ^ 32 - 1) ≤ d * (2 ^ 32 - 1) = mul-le-mul_right (2 ^ 32 - 1) b in
    record { wraps = k.wraps; lower = k.lower; upper = omega (arith, more, k.upper); few = omega (arith, more, k.few) }

pub kept_double : {v c s h : ℕ} → c + c ≤ 2 ^ 31 → Kept v c s h → Kept (v + v) (c + c) ((s + s) % 2 ^ 64) ((h + h) % 2 ^ 64)
kept_double {v} {c} {s} {h} b k = record {
  wraps = rw (k.wraps, ← add-mod);
  lower = rw fits (omega (arith, k.lower));
  upper = rw fits (omega (arith, k.upper, add-mul c c (2 ^ 32 - 1)));
  few = rw fits (omega (arith, k.few, add-mul c c (2 ^ 32 - 1)));
}
  where
    fits : (h + h) % 2 ^ 64 ≡ h + h
    fits = mod-eq_of_lt (omega (arith, k.few, add-mul c c (2 ^ 32 - 1), mul-le-mul_right (2 ^ 32 - 1) b))

-- a number that is kept, and is kept when another is added
pub record More (m number s h s' h' : ℕ) : Type 0 where
  pub kept : {v c : ℕ} → c + m ≤ 2 ^ 31 → Kept v c s h → Kept (v + number) (c + m) s' h'

pub more_total : {m number : ℕ} {t : Total} → IsTotal m number t → {s h s' h' : ℕ}
    → s' ≡ (s + t.wrapped) % 2 ^ 64 → h' ≡ (h + t.high) % 2 ^ 64 → More m number s h s' h'
more_total {m} {number} {t} total {s} {h} {s'} {h'} es eh = record { kept = λ {v} {c} b k. at v c b k }
  where
    at : (v c : ℕ) → c + m ≤ 2 ^ 31 → Kept v c s h → Kept (v + number) (c + m) s' h'
    at v c b k =
        let share : (c + m) * (2 ^ 32 - 1) ≡ c * (2 ^ 32 - 1) + m * (2 ^ 32 - 1) = add-mul c m (2 ^ 32 - 1) in
        let fits : (h + t.high) % 2 ^ 64 ≡ h + t.high =
        mod-eq_of_lt (omega (arith, share, k.few, total.few, mul-le-mul_right (2 ^ 32 - 1) b)) in
        rw (es, eh, fits) record {
          wraps = rw (k.wraps, total.wraps, ← add-mod);
          lower = omega (arith, k.lower, total.lower);
          upper = omega (arith, share, k.upper, total.upper);
          few = omega (arith, share, k.few, total.few);
        }

-- more and still more
pub more-more : {m k a b s h s' h' s'' h'' : ℕ} → More m a s h s' h' → More k b s' h' s'' h'' → More (m + k) (a + b) s h s'' h''
more-more {m} {k} {a} {b} f g = record {
  kept = λ {v} {c} small kept. rw (← add_assoc, ← add_assoc c) (g.kept (omega arith) (f.kept (omega arith) kept));
}

-- nothing
pub more-none : {m a s h s' h' : ℕ} → a ≡ 0 → s' ≡ s → h' ≡ h → More m a s h s' h'
more-none {m} {a} none e f = record { kept = λ {v} {c} small kept. rw (none, e, f, add-zero) (kept-wider (omega arith) kept) }

pub more-wider : {m k a s h s' h' : ℕ} → m ≤ k → More m a s h s' h' → More k a s h s' h'
more-wider b f = record { kept = λ {v} {c} small kept. kept-wider (omega arith) (f.kept (omega arith) kept) }

-- rows are added at the places from `from` on and below `to`, and the others are as they were
pub record Passed (m from to : ℕ) (x : List ℕ) (i : ℕ) (y : List ℕ) (e : ℕ) (sums sums' high high' : List ℕ) : Type 0 where
  pub inside : (t : ℕ) → from ≤ t → t < to
      → More m (rows_sum m x i y (e + (t - from))) (slice_index sums t) (slice_index high t) (slice_index sums' t) (slice_index high' t)
  pub before : (t : ℕ) → t < from → (slice_index sums' t ≡ slice_index sums t) × (slice_index high' t ≡ slice_index high t)
  pub behind : (t : ℕ) → to ≤ t → (slice_index sums' t ≡ slice_index sums t) × (slice_index high' t ≡ slice_index high t)

module _ {m from : ℕ} {x : List ℕ} {i : ℕ} {y : List ℕ} {e : ℕ} {sums high : List ℕ} where
  pub passed_none : Passed m from from x i y e sums sums high high
  passed_none = record { inside = λ t b c. absurd (omega arith); before = λ t b. (refl, refl); behind = λ t b. (refl, refl) }

  pub passed-next : {k : ℕ} {sums' high' : List ℕ} → from ≤ k → k < length sums' → k < length high'
      → Passed m from k x i y e sums sums' high high' → {t : Total} → IsTotal m (rows_sum m x i y (e + (k - from))) t
      → {v u : ℕ} → v ≡ (slice_index sums' k + t.wrapped) % 2 ^ 64 → u ≡ (slice_index high' k + t.high) % 2 ^ 64
      → Passed m from (k + 1) x i y e sums (slice_set sums' k v) high (slice_set high' k u)
  passed-next {k} {sums'} {high'} low in-sums in-high passed {t} total {v} {u} ev eu = record {
    inside = λ j b c. at j b c (dec_lt j k);
    before = λ j b. (other sums' v j (λ d. omega arith) ∙ (passed.before j b).0, other high' u j (λ d. omega arith) ∙ (passed.before j b).1);
    behind = λ j b. (
      other sums' v j (λ d. omega arith) ∙ (passed.behind j (omega arith)).0,
      other high' u j (λ d. omega arith) ∙ (passed.behind j (omega arith)).1,
    );
  }
    where
      other : (l : List ℕ) (a j : ℕ) → j ≢ k → slice_index (slice_set l k a) j ≡ slice_index l j
      other l a j d = get_or-set_other l k j a 0 d

      at : (j : ℕ) → from ≤ j → j < k + 1 → Dec (j < k)
          → More m (rows_sum m x i y (e + (j - from))) (slice_index sums j) (slice_index high j) (slice_index (slice_set sums' k v) j) (slice_index (slice_set high' k u) j)
      at j b c (yes d) = rw (other sums' v j (λ z. omega arith), other high' u j (λ z. omega arith)) (passed.inside j b d)
      at j b c (no d) =
          let same : j ≡ k = omega arith in
          rw (same, get_or-set_same sums' k v 0 in-sums, get_or-set_same high' k u 0 in-high)
          (more_total total (rw (passed.behind k (le_refl k)).0 at ev) (rw (passed.behind k (le_refl k)).1 at eu))

module _ {p from to : ℕ} {x : List ℕ} {i : ℕ} {y : List ℕ} {e : ℕ} {sums high : List ℕ} (f : Factors p 8 from to x i y e sums high) where
  pub factors_eight : p ≤ 2 ^ 31 → Factors (2 ^ 31) 8 from to x i y e sums high
  factors_eight b = record {
    ordered = f.ordered;
    left = f.left;
    right = f.right;
    left_below = record { place = λ j. omega (arith, f.left_below.place j) };
    right-below = record { place = λ j. omega (arith, f.right-below.place j) };
    sums-room = f.sums-room;
    high-room = f.high-room;
  }

  -- four of eight rows
  pub factors-four : p ≤ 2 ^ 32 → {j d : ℕ} → j ≤ i + 4 → d ≤ e + 4 → {s h : List ℕ} → length s ≡ length sums → length h ≡ length high
      → Factors (2 ^ 32) 4 from to x j y d s h
  factors-four b g k es eh = record {
    ordered = f.ordered;
    left = omega (arith, f.left);
    right = omega (arith, f.right);
    left_below = record { place = λ j. omega (arith, f.left_below.place j) };
    right-below = record { place = λ j. omega (arith, f.right-below.place j) };
    sums-room = rw es f.sums-room;
    high-room = rw eh f.high-room;
  }

pub passed_eight : {from to : ℕ} {x : List ℕ} {i : ℕ} {y : List ℕ} {e : ℕ} {s s' s'' h h' h'' : List ℕ}
    → Passed 4 from to x i y (e + 4) s s' h h' → Passed 4 from to x (i + 4) y e s' s'' h' h'' → Passed 8 from to x i y e s s'' h h''
passed_eight {from} {to} {x} {i} {y} {e} f g = record {
  inside = λ t b c.
      let same : e + 4 + (t - from) ≡ e + (t - from) + 4 = omega arith in
      rw (eight_of_four x y i (e + (t - from)), ← same) (more-more (f.inside t b c) (g.inside t b c));
  before = λ t b. ((g.before t b).0 ∙ (f.before t b).0, (g.before t b).1 ∙ (f.before t b).1);
  behind = λ t b. ((g.behind t b).0 ∙ (f.behind t b).0, (g.behind t b).1 ∙ (f.behind t b).1);
}
