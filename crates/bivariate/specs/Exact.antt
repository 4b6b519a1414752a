-- Polynomials in x and y that the rows of a list hold whole, and steps on them.
--
--   plane_at_exact      a polynomial without powers outside the rows is what its list of rows holds
--   opposite_exact     so with a(-x, y), in the rows of a
--   squared_exact      and with a(x^2, y), in rows of r places for the a in rows of ⌈r/2⌉
--   even-plane         the even part, below x^⌈r/2⌉, of what is held below x^r
--   window-places      the places of the rows before l and of those from l on
--   window-segment     the powers of y from l on, of the rows of a list, are a part of the list
--   plane_at-column     in rows of one place
-- Assumes nothing.
use Rattle.std.specs.Prelude.{ℕ, ◌+◌, ◌-◌, ◌*◌, ◌/◌, ◌%◌, ◌<◌, ◌≤◌, Bool, true, false, cond, List, ◌≡◌, refl, eqb, length}
use Rattle.std.proofs.Math.Decide.{dec_lt}
use Rattle.std.proofs.Common.{add-mul, add-zero, div-add-mod', le_of_eq, mod-lt, mul-one, arith, sym, ap, ◌∙◌, eqb-true}
use Rattle.std.proofs.Math.Nat.{mod_self, sub-zero, zero-mod}
use Rattle.std.proofs.Math.Path.{fun_ext}
use Rattle.algebra.specs.Lists.{tabulate-coefficient, tabulate_cong}
use Rattle.algebra.specs.Rows.{length-plane, plane_agree, plane_at-above, plane_at-inside, plane_at-plane, plane_at-right}
use Rattle.bivariate.specs.Steps.{row-positive}
use Rattle.buffer.specs.Written.{length_part}
use Rattle.definition.specs.Bernstein.{spread}
use Rattle.definition.specs.KinoshitaLi.{even_part, negative, opposite, plane, plane_at, plane_place, squared, window}
use Rattle.definition.specs.Lists.{ceil_div, coefficient, tabulate}
use Rattle.product.specs.Planes.{held}
use Rattle.buffer.specs.Segments.{coefficient-segment, segment}
use Rattle.product.specs.declared.Rows.{Rows}

pub plane_at_exact : (r c : ℕ) (a : ℕ → ℕ → ℕ) → ((j i : ℕ) → r ≤ i → a j i ≡ 0) → ((j i : ℕ) → c ≤ j → a j i ≡ 0)
    → plane_at r (plane r c a) ≡ a
plane_at_exact r c a right above = fun_ext λ j. fun_ext λ i. at j i (dec_lt j c) (dec_lt i r)
  where
    at : (j i : ℕ) → Dec (j < c) → Dec (i < r) → plane_at r (plane r c a) j i ≡ a j i
    at j i (yes b) (yes d) = plane_at-plane r c a j b i d
    at j i (yes b) (no d) = plane_at-right r (plane r c a) j i (omega arith) ∙ sym (right j i (omega arith))
    at j i (no b) d =
        plane_at-above r c (plane r c a) (le_of_eq (length-plane r c a)) j i (omega arith) ∙ sym (above j i (omega arith))

opposite-0 : (p : ℕ) (a : ℕ → ℕ → ℕ) (j i : ℕ) → a j i ≡ 0 → opposite p a j i ≡ 0
unfolding opposite negative
opposite-0 p a j i e = rw e (at (eqb (i % 2) 0))
  where
    at : (t : Bool) → cond t 0 ((p - 0 % p) % p) ≡ 0
    at true = refl
    at false = rw (zero-mod, sub-zero, mod_self)

pub opposite_exact : (p r c : ℕ) (l : List ℕ) → length l ≤ c * r
    → plane_at r (plane r c (opposite p (plane_at r l))) ≡ opposite p (plane_at r l)
opposite_exact p r c l short =
    plane_at_exact r c (opposite p (plane_at r l)) (λ j i b. opposite-0 p (plane_at r l) j i (plane_at-right r l j i b))
    (λ j i b. opposite-0 p (plane_at r l) j i (plane_at-above r c l short j i b))

squared-0 : (a : ℕ → ℕ → ℕ) (j i : ℕ) → (i % 2 ≡ 0 → a j (i / 2) ≡ 0) → squared a j i ≡ 0
unfolding squared spread
squared-0 a j i h = at (eqb (i % 2) 0) (λ e. h (eqb-true (i % 2) 0 e))
  where
    at : (t : Bool) → (t ≡ true → a j (i / 2) ≡ 0) → cond t (a j (i / 2)) 0 ≡ 0
    at true h = h refl
    at false h = refl

pub squared_exact : (r c : ℕ) (l : List ℕ) → length l ≤ c * ceil_div r 2
    → plane_at r (plane r c (squared (plane_at (ceil_div r 2) l))) ≡ squared (plane_at (ceil_div r 2) l)
unfolding ceil_div
squared_exact r c l short =
    plane_at_exact r c (squared (plane_at (ceil_div r 2) l))
    (λ j i b. squared-0 (plane_at (ceil_div r 2) l) j i (λ e. plane_at-right (ceil_div r 2) l j (i / 2) (omega arith)))
    (λ j i b. squared-0 (plane_at (ceil_div r 2) l) j i (λ e. plane_at-above (ceil_div r 2) c l short j (i / 2) b))

pub even-plane : (r c : ℕ) (a : ℕ → ℕ → ℕ)
    → plane (ceil_div r 2) c (even_part (plane_at r (plane r c a))) ≡ plane (ceil_div r 2) c (even_part a)
unfolding even_part ceil_div
even-plane r c a = plane_agree (ceil_div r 2) c (λ j b i d. plane_at-plane r c a j b (2 * i) (omega arith))

pub window-places : (r l c : ℕ) → l ≤ c → l * r + (c - l) * r ≡ c * r
window-places r l c few = let e : l + (c - l) ≡ c = omega arith in sym (add-mul l (c - l) r) ∙ rw e

pub window-segment : (r : ℕ) (w : List ℕ) (a : Rows) (l : ℕ) → l ≤ a.count → a.at + a.count * r ≤ length w
    → plane r (a.count - l) (window l (held r w a)) ≡ segment w (a.at + l * r) ((a.count - l) * r)
unfolding plane plane_place window
window-segment r w a l few fits =
    tabulate_cong (c * r) (plane_place r (window l (held r w a))) (coefficient rows) (λ k b. place k b)
    ∙ ap (λ n. tabulate n (coefficient rows)) (sym size)
    ∙ tabulate-coefficient rows
  where
    c : ℕ
    c = a.count - l

    rows : List ℕ
    rows = segment w (a.at + l * r) (c * r)

    later : l * r + c * r ≡ a.count * r
    later = window-places r l a.count few

    size : length rows ≡ c * r
    size = length_part w (a.at + l * r) (c * r) (omega (arith, later))

    place : (k : ℕ) → k < c * r → held r w a (l + k / r) (k % r) ≡ coefficient rows k
    place k b =
        let index : (l + k / r) * r + k % r ≡ l * r + k = omega (arith, add-mul l (k / r) r, div-add-mod' k r) in
        plane_at-inside r (segment w a.at (a.count * r)) (l + k / r) (k % r) (mod-lt k (row-positive c k r b))
        ∙ coefficient-segment w a.at (a.count * r) ((l + k / r) * r + k % r) (omega (arith, index, later))
        ∙ ap (coefficient w) (omega (arith, index))
        ∙ sym (coefficient-segment w (a.at + l * r) (c * r) k b)

pub plane_at-column : (l : List ℕ) → (λ j. plane_at 1 l j 0) ≡ coefficient l
plane_at-column l = fun_ext λ j. plane_at-inside 1 l j 0 (omega arith) ∙ ap (coefficient l) (rw (mul-one, add-zero))
