-- Segments of a list, the places from one on, and writes that lie apart from them.
--
--   segment w a n         the n places of w from place a on
--   Apart w a m t n       the m places from a on and the n places from t on lie inside w, and have none in common
--   CopyOperands          what `copy_part` requires; copy_down, it holds where the place that is copied to is not above
--   coefficient-segment   a place of a segment
--   length-segment        its length
--   segment-segment       a segment of a segment
--   segment-kept          a segment is as it was after a write apart from it
--   apart-within          segments of two segments that lie apart lie apart
--   apart-length          and they do so in every list of that length
-- Assumes nothing.
use Rattle.std.specs.Prelude.{ℕ, ◌+◌, ◌-◌, ◌<◌, ◌≤◌, ◌≡◌, ◌⊎◌, List, length, take, drop}
use Rattle.std.proofs.Math.Nat.{min-le_left}
use Rattle.std.proofs.Common.{arith, ap, inl, inr, ⊎_elim, length-take, drop-drop, get_or-drop, get_or-take, take-take}
use Rattle.std.proofs.lemmas.List.Edits.{sets}
use Rattle.buffer.specs.Written.{drop-sets, drop-sets-inside, drop-take, take-sets}
use Rattle.definition.specs.Lists.{coefficient}

abbrev pub segment : List ℕ → ℕ → ℕ → List ℕ
segment w a n = take n (drop a w)

pub record Apart (w : List ℕ) (a m t n : ℕ) : Type 0 where
  pub source : a + m ≤ length w
  pub target : t + n ≤ length w
  pub apart : (a + m ≤ t) ⊎ (t + n ≤ a)

pub record CopyOperands (from to count : ℕ) (w : List ℕ) : Type 0 where
  pub source : from + count ≤ length w
  pub target : to + count ≤ length w
  pub order : (to ≤ from) ⊎ (from + count ≤ to)

pub copy_down : {from to count : ℕ} {w : List ℕ} → to ≤ from → from + count ≤ length w → CopyOperands from to count w
copy_down down inside = record { source = inside; target = omega arith; order = inl down }

pub coefficient-segment : (w : List ℕ) (a n i : ℕ) → i < n → coefficient (segment w a n) i ≡ coefficient w (a + i)
unfolding coefficient
coefficient-segment w a n i h = rw (get_or-take n (drop a w) i 0 h, get_or-drop)

pub length-segment : (w : List ℕ) (a n : ℕ) → length (segment w a n) ≤ n
length-segment w a n = rw length-take (min-le_left n (length (drop a w)))

pub segment-segment : (w : List ℕ) (a n i k : ℕ) → i + k ≤ n → segment (segment w a n) i k ≡ segment w (a + i) k
segment-segment w a n i k h =
    let e : n ≡ i + (n - i) = omega arith in
    rw (e, drop-take i (n - i) (drop a w), take-take k (n - i) _ (omega arith), drop-drop)

pub apart-within : {w : List ℕ} {a m t n : ℕ} → Apart w a m t n
    → {b k u l : ℕ} → a ≤ b → b + k ≤ a + m → t ≤ u → u + l ≤ t + n → Apart w b k u l
apart-within {w} {a} {m} {t} {n} h {b} {k} {u} {l} begins-a ends-a begins-t ends-t = record {
  source = omega (arith, h.source);
  target = omega (arith, h.target);
  apart = ⊎_elim (λ (s : a + m ≤ t). inl (omega arith)) (λ (s : t + n ≤ a). inr (omega arith)) h.apart;
}

pub apart-length : {v w : List ℕ} {a m t n : ℕ} → length v ≡ length w → Apart w a m t n → Apart v a m t n
apart-length e h = record { source = rw e h.source; target = rw e h.target; apart = h.apart }

pub segment-kept : {w : List ℕ} {a m t n : ℕ} → Apart w a m t n → (vs : List ℕ) → length vs ≤ n → segment (sets w t vs) a m ≡ segment w a m
segment-kept {w} {a} {m} {t} {n} h vs short = ⊎_elim before after h.apart
  where
    before : a + m ≤ t → segment (sets w t vs) a m ≡ segment w a m
    before b =
        let e : a + (t - a) ≡ t = omega arith in
        rw (← e, drop-sets-inside w (t - a) vs a) (take-sets (drop a w) (t - a) vs m (omega arith))

    after : t + n ≤ a → segment (sets w t vs) a m ≡ segment w a m
    after b = ap (take m) (drop-sets w t vs a (omega arith))
