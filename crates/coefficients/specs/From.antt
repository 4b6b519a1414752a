-- Products added to a part of a list of which only the places from one on are written.
--
--   added_rest p n a b t first w     the sum with the product, without the places before `first`
--   added_from p n a b t first w k   w with the places of it before place k written
--   from_first from_next from_last  before the first turn, after one more, and after the last
--   place                           a place of a sum with a product
-- Assumes nothing.
use Prim.Native.Nat.{ℕ, ◌+◌, ◌-◌, ◌%◌, ◌<◌, ◌≤◌}
use Rattle.std.proofs.Math.Nat.{add-mod-mod, sub_self}
use Rattle.std.proofs.Common.{le_of_eq, ap, ◌∙◌, length-drop, take_all}
use native.Mathlib.Omega.{arith}
use Rattle.std.specs.Prelude.{◌≡◌, get_or, take, drop, set}
use mathlib.Core.List.{List}
use Rattle.std.proofs.Math.ListN.{length}
use Rattle.std.proofs.lemmas.List.Edits.{sets}
use Rattle.std.proofs.Math.Seq.{get_or-drop, length-take-le}
use Rattle.algebra.specs.Lists.{coefficient-tabulate}
use Rattle.buffer.specs.Segments.{segment, Apart, apart-within, coefficient-segment, segment-kept}
use Rattle.buffer.specs.Written.{get_or-sets-after, sets-take}
use Rattle.coefficients.specs.Operands.{Operands, added_product, length-added}
use Rattle.definition.specs.Lists.{coefficient}
use Rattle.definition.specs.Ranged.{joined}
use Rattle.definition.specs.Substitution.{cut_product, cut_product_at, cut_sum, cut_sum_at, product}

abbrev pub added_rest : ℕ → ℕ → ℕ → ℕ → ℕ → ℕ → List ℕ → List ℕ
added_rest p n a b t first w = drop first (added_product p n a b t w)

abbrev pub added_from : ℕ → ℕ → ℕ → ℕ → ℕ → ℕ → List ℕ → ℕ → List ℕ
added_from p n a b t first w k = sets w (t + first) (take (k - first) (added_rest p n a b t first w))

length_rest : (p n a b t first : ℕ) (w : List ℕ) → length (added_rest p n a b t first w) ≡ n - first
length_rest p n a b t first w = rw (length-drop, length-added p n a b t w)

pub from_first : (p n a b t first : ℕ) (w : List ℕ) → w ≡ added_from p n a b t first w first
from_first p n a b t first w = rw sub_self

pub from_last : (p n a b t first : ℕ) (w : List ℕ) → added_from p n a b t first w n ≡ sets w (t + first) (added_rest p n a b t first w)
from_last p n a b t first w =
    ap (sets w (t + first)) (take_all (n - first) (added_rest p n a b t first w) (le_of_eq (length_rest p n a b t first w)))

pub place : (p n : ℕ) (s u v : List ℕ) (k : ℕ) → k < n
    → coefficient (joined p n s u v) k ≡ (coefficient s k + product (coefficient u) (coefficient v) k) % p
unfolding joined cut_sum cut_sum_at cut_product cut_product_at
place p n s u v k below =
    coefficient-tabulate n (cut_sum_at p s (cut_product p n u v)) k below
    ∙ rw (coefficient-tabulate n (cut_product_at p u v) k below, add-mod-mod)

module _ {p n a b t : ℕ} {w : List ℕ} (o : Operands p n a b t w) (first : ℕ) where
  abbrev now : ℕ → List ℕ
  now k = added_from p n a b t first w k

  pub from_next : (k : ℕ) → first ≤ k → k < n
      → set (now k) (t + k) ((get_or (now k) (t + k) 0 + product (coefficient (segment (now k) a n)) (coefficient (segment (now k) b n)) k) % p)
      ≡ now (k + 1)
  unfolding coefficient
  from_next k past below =
      let whole : length rest ≡ n - first = length_rest p n a b t first w in
      let size : length done ≡ k - first = length-take-le (k - first) rest (omega arith) in
      let here : first + (k - first) ≡ k = omega arith in
      let there : t + first + (k - first) ≡ t + k = omega arith in
      let more : k + 1 - first ≡ k - first + 1 = omega arith in
      rw (
        segment-kept (later o.left) done (omega arith),
        segment-kept (later o.right) done (omega arith),
        get_or-sets-after w (t + first) done (t + k) 0 (omega arith),
        ← coefficient-segment w t n k below,
        ← place p n (segment w t n) (segment w a n) (segment w b n) k below,
        more,
      )
      (rw (there, get_or-drop first (added_product p n a b t w) (k - first) 0, here) at (sets-take w (t + first) rest (k - first) 0 (omega arith)))
    where
      rest : List ℕ
      rest = added_rest p n a b t first w

      done : List ℕ
      done = take (k - first) rest

      later : {c : ℕ} → Apart w c n t n → Apart w c n (t + first) (n - first)
      later apart = apart-within apart (omega arith) (omega arith) (omega arith) (omega arith)
