-- Lists of rows grow by their last row.
--
--   tabulate-+          a table in two parts
--   plane-0 plane-suc   a list of no rows, and of one row more
--   plane-fits plane-first plane-next   rows that are written from a place on: room for a row, no row is written, and one more
-- Assumes nothing.
use Rattle.std.specs.Prelude.{ℕ, zero, suc, ◌+◌, ◌*◌, ◌<◌, ◌≤◌, ◌≡◌, List, [], ◌++◌}
use Rattle.std.proofs.Common.{add-suc, add-zero, mul-le-mul_right, suc-mul, zero-mul, add-one, arith, sym, ap, ◌∙◌, append_assoc, append-nil}
use Rattle.std.proofs.Math.Arith.{digits_div, digits_mod}
use Rattle.std.proofs.lemmas.List.Edits.{sets}
use Rattle.algebra.specs.Lists.{tabulate_cong}
use Rattle.algebra.specs.Rows.{length-plane}
use Rattle.buffer.specs.Written.{sets-append}
use Rattle.definition.specs.KinoshitaLi.{plane, plane_place}
use Rattle.definition.specs.Lists.{tabulate}

pub tabulate-+ : (m n : ℕ) (f : ℕ → ℕ) → tabulate (m + n) f ≡ tabulate m f ++ tabulate n (λ k. f (m + k))
unfolding tabulate
tabulate-+ m zero f = rw (add-zero, append-nil)
tabulate-+ m (suc n) f = rw (add-suc, tabulate-+ m n f, append_assoc)

pub plane-0 : (r : ℕ) (a : ℕ → ℕ → ℕ) → plane r 0 a ≡ []
unfolding plane tabulate
plane-0 r a = rw zero-mul

pub plane-suc : (r k : ℕ) (a : ℕ → ℕ → ℕ) → plane r (suc k) a ≡ plane r k a ++ tabulate r (a k)
unfolding plane plane_place
plane-suc r k a =
    rw (suc-mul, tabulate-+ (k * r) r (plane_place r a))
    (ap (λ l. tabulate (k * r) (plane_place r a) ++ l)
    (tabulate_cong r (λ i. plane_place r a (k * r + i)) (a k) (λ i h. rw (digits_div k h, digits_mod k h))))

pub plane-fits : {N : ℕ} (t r count j : ℕ) → t + count * r ≤ N → j < count → t + j * r + r ≤ N
plane-fits t r count j room h = omega (arith, mul-le-mul_right r h, suc-mul j r)

pub plane-first : (w : List ℕ) (t r : ℕ) (a : ℕ → ℕ → ℕ) → w ≡ sets w t (plane r 0 a)
plane-first w t r a = sym (rw (plane-0 r a))

pub plane-next : {w w' : List ℕ} (w₀ : List ℕ) (t r j : ℕ) (a : ℕ → ℕ → ℕ) → w ≡ sets w₀ t (plane r j a) → w' ≡ sets w (t + j * r) (tabulate r (a j))
    → w' ≡ sets w₀ t (plane r (j + 1) a)
plane-next w₀ t r j a e f =
    f ∙ rw (e, add-one, plane-suc r j a) (sym (rw (length-plane r j a) at (sets-append w₀ t (plane r j a) (tabulate r (a j)))))
