-- Lists of blocks, and a product of two of them as a sum over pairs of blocks.
--
--   part_of a l              block l of a list of blocks
--   blocks_of a l            the list as a polynomial in two variables: block i holds the coefficients of power i of the outer one
--   Blocked p a l           residues modulo p, with zeros before and behind each block
--   Factors                 two such lists, the first one not too long
--   Rooms                   room for the sums of a part of a result
--   rooms-length            the sums may be others of that length
--   Squared                 where it is a square the factors are the same (square-factors, square-sums)
--   Pairs                   what `add_pairs` requires
--   pairs_sum f g j from to low t   place low + t of the products of blocks l and j - l, for l from `from` on and below `to`
--   twice_pairs              that of a square, twice
--   result_at f g j low t    place low + t of block j of the product
--   Changed f t l l'        each place below t becomes f of it (changed_none, changed_next)
--   Doubled n s s' h h'     the sums below n are doubled
--   pairs_none pair_of pairs_next pairs_count pairs_done   no pair, one more, and all
--   pairs_all pairs_square  all pairs that the product needs, and that the square needs
--   inside_all inside-half inside-middle   their blocks are there
--   summed_up summed_twice squared_up   what the sums keep after them
-- Assumes nothing.
use Prim.Native.Nat.{ℕ, suc, ◌+◌, ◌-◌, ◌*◌, ◌/◌, ◌%◌, ◌<◌, ◌≤◌, ◌^◌, min}
use Rattle.std.proofs.Math.Decide.{dec_le}
use Rattle.std.proofs.Common.{add_assoc, add-mul, le_of_eq, le_refl, mul-le-mul_right, mul-zero, one-mul, zero-add, zero-mul, sym, ap, ap₂, ◌∙◌, le-ltb, lt-ltb, get_or-set_other, get_or-set_same}
use Rattle.std.proofs.Math.Nat.{sub_self}
use native.Mathlib.Omega.{arith}
use Rattle.std.specs.Prelude.{Bool, cond, true, List, ◌≡◌, refl, ltb, get_or, length, set}
use Rattle.algebra.specs.Lists.{sum_beyond, sum-zero}
use Rattle.definition.specs.KinoshitaLi.{product2, product2_term}
use Rattle.definition.specs.Lists.{sum}
use Rattle.definition.specs.Substitution.{product, product_term}
use Rattle.planes.specs.Products.{square}
use Rattle.rows.specs.Rows.{Below, sum-+}
use Rattle.summed_product.specs.Sums.{Sums, sums-added, sums_double, sums-wider}
use Rattle.summed_product.specs.Terms.{Added, added-wider, Padded, Pair, product_of, values}
use Rattle.summed_product.specs.declared.Part.{Part}
use Rattle.blocks.specs.declared.Blocks.{Blocks}

abbrev pub part_of : Blocks → ℕ → Part
part_of a l = record { at = 8 + l * (a.length + 8); count = a.length }

unfoldable pub blocks_of : Blocks → List ℕ → ℕ → ℕ → ℕ
blocks_of a l i = cond (ltb i a.count) (values l (part_of a i)) (λ k. 0)

pub block_at : (a : Blocks) (l : List ℕ) (i : ℕ) → i < a.count → blocks_of a l i ≡ values l (part_of a i)
unfolding blocks_of
block_at a l i h = rw (lt-ltb i a.count h)

pub block_beyond : (a : Blocks) (l : List ℕ) (i : ℕ) → a.count ≤ i → (k : ℕ) → blocks_of a l i k ≡ 0
unfolding blocks_of
block_beyond a l i h k = rw (le-ltb i a.count h)

pub record Blocked (p : ℕ) (a : Blocks) (l : List ℕ) : Type 0 where
  pub below : Below p l
  pub padded : (i : ℕ) → i < a.count → Padded l (part_of a i)

pub record Factors (p : ℕ) (a : Blocks) (left : List ℕ) (b : Blocks) (right : List ℕ) : Type 0 where
  pub modulus : 0 < p
  pub first : Blocked p a left
  pub second : Blocked p b right
  pub few : a.count * (a.length + 8) ≤ 5461

pub record Squared (square : Bool) (a : Blocks) (left : List ℕ) (b : Blocks) (right : List ℕ) : Type 0 where
  pub same : square ≡ true → (a ≡ b) × (left ≡ right)

pub record Rooms (j low n : ℕ) (sums high : List ℕ) : Type 0 where
  pub sums-room : n ≤ length sums
  pub high-room : n ≤ length high
  pub places : low + n < 2 ^ 32
  pub block : j < 2 ^ 32

pub rooms-length : {j low n : ℕ} {sums high s h : List ℕ} → length s ≡ length sums → length h ≡ length high → Rooms j low n sums high → Rooms j low n s h
rooms-length e f r = record { sums-room = rw e r.sums-room; high-room = rw f r.high-room; places = r.places; block = r.block }

pub record Pairs (p : ℕ) (a : Blocks) (left : List ℕ) (b : Blocks) (right : List ℕ) (j from to low n : ℕ) (sums high : List ℕ) : Type 0 where
  pub factors : Factors p a left b right
  pub rooms : Rooms j low n sums high
  pub inside : (l : ℕ) → from ≤ l → l < to → (l < a.count) × (l ≤ j) × (j - l < b.count)

abbrev pub pairs_sum : (ℕ → ℕ → ℕ) → (ℕ → ℕ → ℕ) → ℕ → ℕ → ℕ → ℕ → ℕ → ℕ
pairs_sum f g j from to low t = sum (to - from) (λ k. product2_term f g j (low + t) (from + k))

abbrev pub twice_pairs : (ℕ → ℕ → ℕ) → ℕ → ℕ → ℕ → ℕ → ℕ → ℕ
twice_pairs f j from to low t = pairs_sum f f j from to low t + pairs_sum f f j from to low t

abbrev pub result_at : (ℕ → ℕ → ℕ) → (ℕ → ℕ → ℕ) → ℕ → ℕ → ℕ → ℕ
result_at f g j low t = product2 f g j (low + t)

-- each place below t becomes f of it
pub record Changed (f : ℕ → ℕ) (t : ℕ) (l l' : List ℕ) : Type 0 where
  pub done : (i : ℕ) → i < t → get_or l' i 0 ≡ f (get_or l i 0)
  pub due : (i : ℕ) → t ≤ i → get_or l' i 0 ≡ get_or l i 0

pub changed_none : {f : ℕ → ℕ} {l : List ℕ} → Changed f 0 l l
changed_none = record { done = λ i b. absurd (omega arith); due = λ i b. refl }

pub changed_next : {f : ℕ → ℕ} {t : ℕ} {l l' : List ℕ} → Changed f t l l' → t < length l' → {v : ℕ} → v ≡ f (get_or l' t 0)
    → Changed f (t + 1) l (set l' t v)
changed_next {f} {t} {l} {l'} h inside {v} e = record {
  done = λ i b. at i b (dec_le t i);
  due = λ i b. get_or-set_other l' t i v 0 (λ d. omega arith) ∙ h.due i (omega arith);
}
  where
    at : (i : ℕ) → i < t + 1 → Dec (t ≤ i) → get_or (set l' t v) i 0 ≡ f (get_or l i 0)
    at i b (yes c) =
        let same : i ≡ t = omega arith in
        rw (same, get_or-set_same l' t v 0 inside, e, h.due t (le_refl t))
    at i b (no c) = get_or-set_other l' t i v 0 (λ d. omega arith) ∙ h.done i (omega arith)

pub record Doubled (n : ℕ) (s s' h h' : List ℕ) : Type 0 where
  pub sums : Changed (λ v. (v + v) % 2 ^ 64) n s s'
  pub high : Changed (λ v. (v + v) % 2 ^ 64) n h h'

module _ {p : ℕ} {a : Blocks} {left : List ℕ} {b : Blocks} {right : List ℕ} {j from to low n : ℕ} {sums high : List ℕ}
    (pairs : Pairs p a left b right j from to low n sums high) (l : ℕ) (begun : from ≤ l) where
  pub pair_of : l < to → {s h : List ℕ} → length s ≡ length sums → length h ≡ length high
      → Pair p left (part_of a l) right (part_of b (j - l)) low n s h
  pair_of due e f =
      let at = pairs.inside l begun due in record {
        left = pairs.factors.first.padded l at.0;
        right = pairs.factors.second.padded (j - l) at.2;
        left_below = pairs.factors.first.below;
        right-below = pairs.factors.second.below;
        sums-room = rw e pairs.rooms.sums-room;
        high-room = rw f pairs.rooms.high-room;
        few = pairs.rooms.places;
      }

  pub pairs_next : l < to → (t : ℕ) → pairs_sum (blocks_of a left) (blocks_of b right) j from (l + 1) low t
      ≡ pairs_sum (blocks_of a left) (blocks_of b right) j from l low t + product_of left (part_of a l) right (part_of b (j - l)) low t
  unfolding sum product2_term
  pairs_next due t =
      let at = pairs.inside l begun due in
      let more : l + 1 - from ≡ suc (l - from) = omega arith in
      let here : from + (l - from) ≡ l = omega arith in
      rw (more, here, block_at a left l at.0, block_at b right (j - l) at.2)

pub pairs_none : (f g : ℕ → ℕ → ℕ) (j from low t : ℕ) → pairs_sum f g j from from low t ≡ 0
unfolding sum
pairs_none f g j from low t = rw (sub_self)

pub pairs_count : (l from c : ℕ) → from ≤ l → (l + 1 - from) * c ≡ (l - from) * c + c
pairs_count l from c h =
    let more : l + 1 - from ≡ l - from + 1 = omega arith in
    rw (more, add-mul, one-mul)

pub pairs_done : {n : ℕ} {s s' h h' : List ℕ} (f g : ℕ → ℕ → ℕ) (j low c l to from : ℕ) → l - from ≡ to - from
    → Added n ((l - from) * c) s s' h h' (pairs_sum f g j from l low) → Added n ((to - from) * c) s s' h h' (pairs_sum f g j from to low)
pairs_done f g j low c l to from e a =
    added-wider a (le_of_eq (ap (λ d. d * c) e)) (λ t b. ap (λ d. sum d (λ k. product2_term f g j (low + t) (from + k))) (sym e))

-- terms that are zero

module _ (f g : ℕ → ℕ → ℕ) (j i l : ℕ) where
  term-left : ((k : ℕ) → f l k ≡ 0) → product2_term f g j i l ≡ 0
  unfolding product2_term product product_term
  term-left h = sum-zero (suc i) (product_term (f l) (g (j - l)) i) (λ k c. rw (h k, zero-mul))

  term-right : ((k : ℕ) → g (j - l) k ≡ 0) → product2_term f g j i l ≡ 0
  unfolding product2_term product product_term
  term-right h = sum-zero (suc i) (product_term (f l) (g (j - l)) i) (λ k c. rw (h (i - k), mul-zero))

-- a sum is that of the terms from one on and below another, where the others are zero
sum-window : (from to n : ℕ) (f : ℕ → ℕ) → to ≤ n → ((l : ℕ) → l < from → f l ≡ 0) → ((l : ℕ) → to ≤ l → l < n → f l ≡ 0)
    → sum (to - from) (λ k. f (from + k)) ≡ sum n f
unfolding sum
sum-window from to n f all early late = at (dec_le from to)
  where
    at : Dec (from ≤ to) → sum (to - from) (λ k. f (from + k)) ≡ sum n f
    at (yes b) =
        let whole : to ≡ from + (to - from) = omega arith in
        sym (sum_beyond to n f all late ∙ ap (λ s. sum s f) whole ∙ sum-+ from (to - from) f ∙ rw (sum-zero from f early, zero-add))
    at (no b) =
        let none : to - from ≡ 0 = omega arith in
        rw none (sym (sum_beyond to n f all late ∙ sum-zero to f (λ l h. early l (omega arith))))

module _ (a : Blocks) (left : List ℕ) (b : Blocks) (right : List ℕ) (j low t : ℕ) where
  abbrev F : ℕ → ℕ → ℕ
  F = blocks_of a left

  abbrev G : ℕ → ℕ → ℕ
  G = blocks_of b right

  pub pairs_all : pairs_sum F G j (j + 1 - b.count) (min (j + 1) a.count) low t ≡ product2 F G j (low + t)
  unfolding product2
  pairs_all =
      sum-window (j + 1 - b.count) (min (j + 1) a.count) (suc j) (product2_term F G j (low + t)) (omega arith)
      (λ l h. term-right F G j (low + t) l (block_beyond b right (j - l) (omega arith)))
      (λ l h k. term-left F G j (low + t) l (block_beyond a left l (omega arith)))

module _ (a : Blocks) (left : List ℕ) (j low t : ℕ) where
  abbrev T : ℕ → ℕ
  T = product2_term (blocks_of a left) (blocks_of a left) j (low + t)

  abbrev half : ℕ
  half = (j + 1) / 2

  abbrev to : ℕ
  to = min (j / 2 + 1) a.count

  below_half : pairs_sum (blocks_of a left) (blocks_of a left) j (j + 1 - a.count) half low t ≡ sum half T
  below_half =
      sum-window (j + 1 - a.count) half half T (omega arith)
      (λ l h. term-right (blocks_of a left) (blocks_of a left) j (low + t) l (block_beyond a left (j - l) (omega arith)))
      (λ l h k. absurd (omega arith))

  middle : sum half T + pairs_sum (blocks_of a left) (blocks_of a left) j half to low t ≡ sum (j / 2 + 1) T
  middle =
      let whole : j / 2 + 1 ≡ half + (j / 2 + 1 - half) = omega arith in
      sym (ap (λ s. sum s T) whole ∙ sum-+ half (j / 2 + 1 - half) T ∙ ap (◌+◌ (sum half T)) rest)
    where
      rest : sum (j / 2 + 1 - half) (λ k. T (half + k)) ≡ sum (to - half) (λ k. T (half + k))
      rest =
          sum_beyond (to - half) (j / 2 + 1 - half) (λ k. T (half + k)) (omega arith)
          (λ k h c. term-left (blocks_of a left) (blocks_of a left) j (low + t) (half + k) (block_beyond a left (half + k) (omega arith)))

  pub pairs_square : product2 (blocks_of a left) (blocks_of a left) j (low + t)
      ≡ pairs_sum (blocks_of a left) (blocks_of a left) j (j + 1 - a.count) half low t
      + pairs_sum (blocks_of a left) (blocks_of a left) j (j + 1 - a.count) half low t
      + pairs_sum (blocks_of a left) (blocks_of a left) j half to low t
  pairs_square = square (blocks_of a left) j (low + t) ∙ rw (← middle, below_half) (sym (add_assoc _ _ _))

pub inside_all : {j c d from to : ℕ} → from ≡ j + 1 - d → to ≡ min (j + 1) c → (l : ℕ) → from ≤ l → l < to → (l < c) × (l ≤ j) × (j - l < d)
inside_all e f l b h = (omega arith, omega arith, omega arith)

pub inside-half : {j c from to : ℕ} → from ≡ j + 1 - c → to ≡ (j + 1) / 2 → (l : ℕ) → from ≤ l → l < to → (l < c) × (l ≤ j) × (j - l < c)
inside-half e f l b h = (omega arith, omega arith, omega arith)

pub inside-middle : {j c from to : ℕ} → from ≡ (j + 1) / 2 → to ≡ min (j / 2 + 1) c → (l : ℕ) → from ≤ l → l < to
    → (l < c) × (l ≤ j) × (j - l < c)
inside-middle e f l b h = (omega arith, omega arith, omega arith)

few_pairs : {p : ℕ} {a : Blocks} {left : List ℕ} {b : Blocks} {right : List ℕ} → Factors p a left b right → (k : ℕ) → k ≤ a.count
    → k * (a.length + 8) ≤ 5461
few_pairs {a = a} factors k h = omega (arith, mul-le-mul_right (a.length + 8) h, factors.few)

module _ {p : ℕ} {a : Blocks} {left : List ℕ} {b : Blocks} {right : List ℕ} (factors : Factors p a left b right) (j low n : ℕ) where
  pub summed_up : {s s' h h' : List ℕ} {from to : ℕ} → from ≡ j + 1 - b.count → to ≡ min (j + 1) a.count
      → Sums n 0 s h (λ t. 0)
      → Added n ((to - from) * (a.length + 8)) s s' h h' (pairs_sum (blocks_of a left) (blocks_of b right) j from to low)
      → Sums n (2 ^ 14 - 1) s' h' (result_at (blocks_of a left) (blocks_of b right) j low)
  summed_up {from = from} {to} ef et zeros added =
      let bound : (to - from) * (a.length + 8) ≤ 5461 = few_pairs factors (to - from) (omega arith) in
      sums-wider (omega arith) (λ t c. sym (rw (ef, et) (pairs_all a left b right j low t)))
      (sums-added (omega arith) zeros added (λ t c. sym (zero-add _)))

module _ {p : ℕ} {a : Blocks} {left : List ℕ} (factors : Factors p a left a left) (j low n : ℕ) where
  pub summed_twice : {s s₁ s₂ h h₁ h₂ : List ℕ} (from to : ℕ) → to ≤ from + a.count → Sums n 0 s h (λ t. 0)
      → Added n ((to - from) * (a.length + 8)) s s₁ h h₁ (pairs_sum (blocks_of a left) (blocks_of a left) j from to low)
      → Doubled n s₁ s₂ h₁ h₂ → Sums n 10922 s₂ h₂ (twice_pairs (blocks_of a left) j from to low)
  summed_twice from to b zeros added twice =
      let bound : (to - from) * (a.length + 8) ≤ 5461 = few_pairs factors (to - from) (omega arith) in
      sums-wider (omega arith) (λ t c. refl)
      (sums_double (omega arith) (sums-added (omega arith) zeros added (λ t c. sym (zero-add _))) twice.sums.done twice.high.done)

  pub squared_up : {s s' h h' : List ℕ} {from half to : ℕ} → from ≡ j + 1 - a.count → half ≡ (j + 1) / 2 → to ≡ min (j / 2 + 1) a.count
      → Sums n 10922 s h (twice_pairs (blocks_of a left) j from half low)
      → Added n ((to - half) * (a.length + 8)) s s' h h' (pairs_sum (blocks_of a left) (blocks_of a left) j half to low)
      → Sums n (2 ^ 14 - 1) s' h' (result_at (blocks_of a left) (blocks_of a left) j low)
  squared_up {from = from} {half} {to} ef eh et twice added =
      let bound : (to - half) * (a.length + 8) ≤ 5461 = few_pairs factors (to - half) (omega arith) in
      sums-wider (omega arith) (λ t c. rw (ef, eh, et) (pairs_square a left j low t)) (sums-added (omega arith) twice added (λ t c. refl))

pub square-factors : {p : ℕ} {a : Blocks} {left : List ℕ} {b : Blocks} {right : List ℕ} → Factors p a left b right → Factors p a left a left
square-factors factors = record { modulus = factors.modulus; first = factors.first; second = factors.first; few = factors.few }

module _ {square : Bool} {a : Blocks} {left : List ℕ} {b : Blocks} {right : List ℕ} (squared : Squared square a left b right)
    (is : square ≡ true) (j low : ℕ) where
  pub square-sums : {n m : ℕ} {s h : List ℕ} → Sums n m s h (result_at (blocks_of a left) (blocks_of a left) j low)
      → Sums n m s h (result_at (blocks_of a left) (blocks_of b right) j low)
  square-sums sums =
      sums-wider (le_refl _) (λ t c. ap (λ g. product2 (blocks_of a left) g j (low + t)) (sym (ap₂ blocks_of (squared.same is).0 (squared.same is).1))) sums
