-- Lists that are equal outside some places: what a step may change in the work buffer.
--
--   Within t n before after   the lists have one length, and are equal outside the n places from t on
--   within_refl within_trans  no change, and one change after another
--   within_wider              a change within some places is one within more
--   within-sets               a write
--   rest-lent rest_back       the rest from place k on, as it is lent, and come back
--   within-rest               a change in the rest from place k on, which was lent on
--   segment-within            a segment apart from the change is as it was
--   segment-sets              the segment that a write filled
--   segment-rest              a segment of the rest from place k on
--   cleared-within            clearing the first n places clears a change within them
-- Assumes nothing.
use Rattle.std.specs.Prelude.{ℕ, ◌+◌, ◌-◌, ◌≤◌, ◌⊎◌, ◌≡◌, refl, List, ◌++◌, length, take, drop, replicate}
use Rattle.std.proofs.Common.{add_assoc, le_of_eq, zero-add, arith, ⊎_elim, sym, ap, ◌∙◌, append-nil, length-append, length-drop, drop_of_length-le, drop-drop, length-take-le, take_all, take-take, take-add, drop_at}
use Rattle.std.proofs.lemmas.List.Edits.{sets}
use Rattle.std.proofs.Math.Seq.{length-sets, take-append-add, drop-append-add}
use Rattle.buffer.specs.Written.{drop-sets, take-sets, part-sets}
use Rattle.definition.specs.Answer.{cleared}
use Rattle.buffer.specs.Segments.{segment, segment-segment}

pub record Within (t n : ℕ) (before after : List ℕ) : Type 0 where
  pub size : length after ≡ length before
  pub early : take t after ≡ take t before
  pub late : drop (t + n) after ≡ drop (t + n) before

pub within_refl : (t n : ℕ) (w : List ℕ) → Within t n w w
within_refl t n w = record { size = refl; early = refl; late = refl }

pub within_trans : {t n : ℕ} {u v w : List ℕ} → Within t n u v → Within t n v w → Within t n u w
within_trans a b = record {
  size = b.size ∙ a.size;
  early = b.early ∙ a.early;
  late = b.late ∙ a.late;
}

pub within_wider : {t n s m : ℕ} {v w : List ℕ} → s ≤ t → t + n ≤ s + m → Within t n v w → Within s m v w
within_wider {t} {n} {s} {m} {v} {w} low high h = record {
  size = h.size;
  early = sym (take-take s t w low) ∙ ap (take s) h.early ∙ take-take s t v low;
  late =
      let e : t + n + (s + m - (t + n)) ≡ s + m = omega arith in
      let further : (l : List ℕ) → drop (s + m - (t + n)) (drop (t + n) l) ≡ drop (s + m) l =
      λ l. drop-drop (s + m - (t + n)) (t + n) l ∙ ap (λ k. drop k l) e in
      sym (further w) ∙ rw h.late (further v);
}

pub within-sets : {t n : ℕ} (w : List ℕ) (u : ℕ) (vs : List ℕ) → t ≤ u → u + length vs ≤ t + n → Within t n w (sets w u vs)
within-sets {t} {n} w u vs low high = record {
  size = length-sets w u vs;
  early = take-sets w u vs t low;
  late = drop-sets w u vs (t + n) high;
}

pub segment-within : {t n : ℕ} {v w : List ℕ} → Within t n v w → (a m : ℕ) → (a + m ≤ t) ⊎ (t + n ≤ a) → segment w a m ≡ segment v a m
segment-within {t} {n} {v} {w} h a m apart = ⊎_elim before after apart
  where
    before : a + m ≤ t → segment w a m ≡ segment v a m
    before b =
        let part : (l : List ℕ) → segment (take t l) a m ≡ segment l a m = λ l. segment-segment l 0 t a m b ∙ rw zero-add in
        sym (part w) ∙ rw h.early (part v)

    after : t + n ≤ a → segment w a m ≡ segment v a m
    after b = ap (take m) (rw zero-add at (within_wider {s = 0} {m = a} (omega arith) (omega arith) h).late)

pub segment-sets : (w : List ℕ) (t : ℕ) (vs : List ℕ) (n : ℕ) → length vs ≡ n → t + n ≤ length w → segment (sets w t vs) t n ≡ vs
segment-sets w t vs n e h = rw (← e) (part-sets w t vs (omega arith))

pub rest-lent : (k : ℕ) (v : List ℕ) → segment v k (length v - k) ≡ drop k v
rest-lent k v = take_all (length v - k) (drop k v) (le_of_eq (length-drop k v))

pub rest_back : (k : ℕ) (v rest : List ℕ) → take k v ++ (rest ++ drop (length v - k) (drop k v)) ≡ take k v ++ rest
rest_back k v rest = rw (drop_of_length-le (drop k v) (le_of_eq (length-drop k v)), append-nil)

pub within-rest : {t n : ℕ} (k : ℕ) (w rest : List ℕ) → k ≤ length w → Within t n (drop k w) rest → Within (k + t) n w (take k w ++ rest)
within-rest {t} {n} k w rest fits h = record {
  size = rw (length-append, front, h.size, length-drop) (omega arith);
  early =
      let e : take (k + t) (take k w ++ rest) ≡ take k w ++ take t rest = rw front at (take-append-add (take k w) rest t) in
      e ∙ rw h.early (sym (take-add k t w));
  late =
      let e : drop (k + (t + n)) (take k w ++ rest) ≡ drop (t + n) rest = rw front at (drop-append-add (take k w) rest (t + n)) in
      rw add_assoc (e ∙ h.late ∙ drop-drop (t + n) k w);
}
  where
    front : length (take k w) ≡ k
    front = length-take-le k w fits

pub segment-rest : (k : ℕ) (w rest : List ℕ) (a n : ℕ) → k ≤ length w → segment (take k w ++ rest) (k + a) n ≡ segment rest a n
segment-rest k w rest a n fits = rw (← drop-drop, drop_at (take k w) rest k (length-take-le k w fits))

pub cleared-within : {n : ℕ} {v w : List ℕ} → Within 0 n v w → cleared n w ≡ cleared n v
unfolding cleared
cleared-within {n} h = ap (λ rest. replicate n 0 ++ rest) (rw zero-add at h.late)
