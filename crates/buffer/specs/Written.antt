-- Lists written into lists. `sets l i vs` (of lib.Seq) is l with vs written from place i on; as prefix, new part and suffix it is `sets-eq` there.
--
--   sets-set            a place written before a later part may be written after it
--   sets-append         two writes side by side are one
--   sets_snoc           one place more
--   sets-take           one place more of a list that is copied place by place
--   sets_cover          a write over an earlier one, which it covers
--   get_or-sets_other, get_or-sets-after    a place read after a write elsewhere
--   get_or-sets-inside    a place read after it was written
--   take-sets, drop-sets                     the parts before and after a write
--   drop-sets-inside                         a write within the part that is kept
--   part-sets           the part that was written
--   front-sets          the same at the front of a list
--   sets-part           a part lent from place i on and come back as vs
--   sets-front          a part lent from place 0 on and come back as vs
--   length_part         the length of k places from place i on
--   drop-take           these k places, cut before or after
--   sets-whole          a write over the whole list
--   cleared-part        a part lent from place t on and come back cleared
-- Assumes nothing.
use Rattle.std.specs.Prelude.{ℕ, zero, suc, ◌+◌, ◌<◌, ◌≤◌, ◌≢◌, ◌≡◌, refl, List, [], ◌∷◌, ◌++◌, length, get_or, take, drop, set, replicate}
use Rattle.std.proofs.Common.{add-zero, add-suc, suc-add, zero-add, le_of_eq, add-one, arith, sym, ap, ◌∙◌, append_assoc, append-nil, length-drop, drop_of_length-le, set-set, drop-set-lt, get_or-set_other, drop-drop, drop_at, length-take-le, get_or-drop, get_or-take, take-suc}
use Rattle.std.proofs.lemmas.List.{length-replicate, set_comm, take-set-le, drop-set-add}
use Rattle.std.proofs.lemmas.List.Edits.{sets, sets-eq}
use Rattle.std.proofs.Math.Seq.{take-append_seam, drop-length, take-nil}
use Rattle.definition.specs.Answer.{cleared}

module _ {A : Type 0} where
  pub sets-set : (l : List A) (i j : ℕ) (a : A) (vs : List A) → i < j → sets (set l i a) j vs ≡ set (sets l j vs) i a
  sets-set l i j a [] h = refl
  sets-set l i j a (v ∷ vs) h =
      rw (set_comm l i j a v (λ e. omega arith)) (sets-set (set l j v) i (suc j) a vs (omega arith))

  pub sets-append : (l : List A) (i : ℕ) (us vs : List A) → sets l i (us ++ vs) ≡ sets (sets l i us) (i + length us) vs
  sets-append l i [] vs = rw add-zero
  sets-append l i (u ∷ us) vs = rw (add-suc, ← suc-add) (sets-append (set l i u) (suc i) us vs)

  pub sets_snoc : (l : List A) (i : ℕ) (vs : List A) (a : A) → set (sets l i vs) (i + length vs) a ≡ sets l i (vs ++ (a ∷ []))
  sets_snoc l i vs a = sym (sets-append l i vs (a ∷ []))

  pub sets_cover : (l : List A) (i : ℕ) (us vs : List A) → length us ≤ length vs → sets (sets l i us) i vs ≡ sets l i vs
  sets_cover l i [] vs h = refl
  sets_cover l i (u ∷ us) [] h = absurd (omega arith)
  sets_cover l i (u ∷ us) (v ∷ vs) h =
      rw (← sets-set (set l i u) i (suc i) v us (omega arith), set-set) (sets_cover (set l i v) (suc i) us vs (omega arith))

  pub get_or-sets_other : (l : List A) (i : ℕ) (vs : List A) (k : ℕ) (d : A) → ((j : ℕ) → j < length vs → k ≢ i + j)
      → get_or (sets l i vs) k d ≡ get_or l k d
  get_or-sets_other l i [] k d apart = refl
  get_or-sets_other l i (v ∷ vs) k d apart =
      get_or-sets_other (set l i v) (suc i) vs k d (λ j h e. apart (suc j) (omega arith) (omega arith))
      ∙ get_or-set_other l i k v d (λ e. apart 0 (omega arith) (omega arith))

  pub get_or-sets-after : (l : List A) (i : ℕ) (vs : List A) (k : ℕ) (d : A) → i + length vs ≤ k → get_or (sets l i vs) k d ≡ get_or l k d
  get_or-sets-after l i vs k d h = get_or-sets_other l i vs k d (λ j b e. omega arith)

  pub take-sets : (l : List A) (i : ℕ) (vs : List A) (k : ℕ) → k ≤ i → take k (sets l i vs) ≡ take k l
  take-sets l i [] k h = refl
  take-sets l i (v ∷ vs) k h = take-sets (set l i v) (suc i) vs k (omega arith) ∙ take-set-le k l i v h

  pub drop-sets : (l : List A) (i : ℕ) (vs : List A) (k : ℕ) → i + length vs ≤ k → drop k (sets l i vs) ≡ drop k l
  drop-sets l i [] k h = refl
  drop-sets l i (v ∷ vs) k h = drop-sets (set l i v) (suc i) vs k (omega arith) ∙ drop-set-lt k l i v (omega arith)

  pub drop-sets-inside : (l : List A) (i : ℕ) (vs : List A) (k : ℕ) → drop k (sets l (k + i) vs) ≡ sets (drop k l) i vs
  drop-sets-inside l i [] k = refl
  drop-sets-inside l i (v ∷ vs) k = rw (← add-suc, drop-sets-inside (set l (k + i) v) (suc i) vs k, drop-set-add)

  pub sets-part : (l : List A) (i k : ℕ) (vs : List A) → length vs ≡ k → i + k ≤ length l
      → take i l ++ (vs ++ drop k (drop i l)) ≡ sets l i vs
  sets-part l i k vs e h = rw (drop-drop, ← append_assoc, ← e) (sym (sets-eq vs l i (omega arith)))

  pub sets-front : (l : List A) (k : ℕ) (vs : List A) → length vs ≡ k → k ≤ length l → vs ++ drop k l ≡ sets l 0 vs
  sets-front l k vs e h = sets-part l 0 k vs e (omega arith)

  pub part-sets : (l : List A) (i : ℕ) (vs : List A) → i + length vs ≤ length l → take (length vs) (drop i (sets l i vs)) ≡ vs
  part-sets l i vs h =
      rw (sets-eq vs l i h, append_assoc, drop_at _ _ i (length-take-le i l (omega arith))) (take-append_seam vs _)

  pub front-sets : (n : ℕ) (l vs : List A) {after : List A} → after ≡ sets l 0 vs → length vs ≡ n → n ≤ length l → take n after ≡ vs
  front-sets n l vs written size h = ap (take n) written ∙ rw size at (part-sets l 0 vs (omega arith))

  pub drop-take : (i n : ℕ) (l : List A) → drop i (take (i + n) l) ≡ take n (drop i l)
  drop-take zero n l = rw zero-add
  drop-take (suc i) n [] = rw (suc-add, take-nil n)
  drop-take (suc i) n (x ∷ l) = rw suc-add (drop-take i n l)

  pub get_or-sets-inside : (l : List A) (i : ℕ) (vs : List A) (j : ℕ) (d : A) → i + length vs ≤ length l → j < length vs
      → get_or (sets l i vs) (i + j) d ≡ get_or vs j d
  get_or-sets-inside l i vs j d h below =
      rw (← get_or-drop, ← get_or-take (length vs) (drop i (sets l i vs)) j d below, part-sets l i vs h)

  pub length_part : (l : List A) (i k : ℕ) → i + k ≤ length l → length (take k (drop i l)) ≡ k
  length_part l i k h = length-take-le k (drop i l) (rw length-drop (omega arith))

  pub sets-whole : (l vs : List A) → length vs ≡ length l → sets l 0 vs ≡ vs
  sets-whole l vs e = sym (sets-front l (length vs) vs refl (omega arith)) ∙ rw (e, drop-length, append-nil)

  pub sets-take : (l : List A) (i : ℕ) (vs : List A) (j : ℕ) (d : A) → j < length vs
      → set (sets l i (take j vs)) (i + j) (get_or vs j d) ≡ sets l i (take (j + 1) vs)
  sets-take l i vs j d h =
      let e : length (take j vs) ≡ j = length-take-le j vs (omega arith) in
      rw (add-one, take-suc vs j d h, ← sets_snoc, e)

pub cleared-part : (w : List ℕ) (t n : ℕ) → t + n ≤ length w
    → take t w ++ (cleared n (take n (drop t w)) ++ drop n (drop t w)) ≡ sets w t (replicate n 0)
unfolding cleared
cleared-part w t n h =
    let size : length (take n (drop t w)) ≡ n = length_part w t n h in
    rw (drop_of_length-le (take n (drop t w)) (le_of_eq size), append-nil) (sets-part w t n (replicate n 0) (length-replicate n 0) h)
