-- Laws of the lists that hold a polynomial in x and y in rows of r places, row j for y^j. Assumes nothing.
--
--   plane_at-inside plane_at-right   the coefficient of y^j x^i is place j r + i of the list for i < r, and 0 from r on
--   plane_at-above       it is 0 for j from w on, if the list has at most w rows
--   plane_at-row         row j of a list is the part of r places from j r on
--   length-plane        the list of a below y^w and x^r has w r places
--   coefficient-plane   its place j r + i, for j < w and i < r, is the coefficient of y^j x^i in a
--   plane_at-plane plane_at-cut   the polynomial that it holds agrees with a below y^w and x^r, and is the cut of a
--   plane_agree         the lists of two polynomials that agree below y^w and x^r are equal
--   plane-row plane-column   a list of one row, and a list of rows of one place
use Rattle.std.specs.Prelude.{ℕ, zero, suc, ◌+◌, ◌*◌, ◌/◌, ◌%◌, ◌<◌, ◌≤◌, List, ◌≡◌, length, take, drop}
use Rattle.std.proofs.Math.Path.{sym, fun_ext}
use Rattle.std.proofs.Common.{◌∙◌, div-lt_iff_lt-mul, div-one, mod-eq_of_lt, mod-lt, mul-le-mul_right, mul-one, mul-zero, one-mul, arith}
use borrow.Author.Tests.{lt-ltb, le-ltb}
use Rattle.std.proofs.Math.Arith.{digits_lt, digits_div, digits_mod}
use Rattle.std.proofs.Math.ListN.{length-take}
use Rattle.std.proofs.Math.Seq.{get_or-take, get_or-drop}
use Rattle.std.proofs.Math.Decide.{dec_lt}
use Rattle.std.proofs.Math.Nat.{div-eq_of_lt, mod-one}
use Rattle.algebra.specs.Cut.{cut_unique}
use Rattle.algebra.specs.Lists.{coefficient_beyond, coefficient-tabulate, length-tabulate, tabulate_cong}
use Rattle.algebra.specs.Plane.{Plane, AgreePlane, cut-plane}
use Rattle.algebra.specs.Semiring.{naturals}
use Rattle.algebra.specs.Series.{series, 𝟘-at}
use Rattle.definition.specs.KinoshitaLi.{plane_at, plane_place, plane}
use Rattle.definition.specs.Lists.{tabulate, coefficient}

-- place k stands in row k / r, at place k % r
row_below : (w r k : ℕ) → k < w * r → (k / r < w) × (k % r < r)
row_below w zero k b = absurd (omega (arith, mul-zero w))
row_below w (suc r) k b = let l : 0 < suc r = omega arith in ((div-lt_iff_lt-mul l).1 b, mod-lt k l)

module _ (r : ℕ) where
  pub plane_at-inside : (l : List ℕ) (j i : ℕ) → i < r → plane_at r l j i ≡ coefficient l (j * r + i)
  unfolding plane_at
  plane_at-inside l j i b = rw lt-ltb

  pub plane_at-right : (l : List ℕ) (j i : ℕ) → r ≤ i → plane_at r l j i ≡ 0
  unfolding plane_at
  plane_at-right l j i b = rw le-ltb

  pub plane_at-above : (w : ℕ) (l : List ℕ) → length l ≤ w * r → (j i : ℕ) → w ≤ j → plane_at r l j i ≡ 0
  plane_at-above w l e j i b = at (dec_lt i r)
    where
      at : Dec (i < r) → plane_at r l j i ≡ 0
      at (yes c) = plane_at-inside l j i c ∙ coefficient_beyond l (j * r + i) (omega (arith, mul-le-mul_right r b))
      at (no c) = plane_at-right l j i (omega arith)

  pub plane_at-row : (l : List ℕ) (j : ℕ) → coefficient (take r (drop (j * r) l)) ≡ plane_at r l j
  unfolding coefficient
  plane_at-row l j = fun_ext λ i. at i (dec_lt i r)
    where
      at : (i : ℕ) → Dec (i < r) → coefficient (take r (drop (j * r) l)) i ≡ plane_at r l j i
      at i (yes b) = get_or-take r (drop (j * r) l) i 0 b ∙ get_or-drop (j * r) l i 0 ∙ sym (plane_at-inside l j i b)
      at i (no b) =
          coefficient_beyond (take r (drop (j * r) l)) i (rw length-take (omega arith))
          ∙ sym (plane_at-right l j i (omega arith))

  module _ (w : ℕ) where
    pub length-plane : (a : Plane ℕ) → length (plane r w a) ≡ w * r
    unfolding plane
    length-plane a = length-tabulate (w * r) (plane_place r a)

    pub coefficient-plane : (a : Plane ℕ) (j i : ℕ) → j < w → i < r → coefficient (plane r w a) (j * r + i) ≡ a j i
    unfolding plane plane_place
    coefficient-plane a j i b c =
        coefficient-tabulate (w * r) (plane_place r a) (j * r + i) (digits_lt b c) ∙ rw (digits_div j c, digits_mod j c)

    pub plane_at-plane : (a : Plane ℕ) → AgreePlane w r (plane_at r (plane r w a)) a
    plane_at-plane a j b i c = plane_at-inside (plane r w a) j i c ∙ coefficient-plane a j i b c

    pub plane_at-cut : (a : Plane ℕ) → plane_at r (plane r w a) ≡ cut-plane naturals w r a
    plane_at-cut a =
        cut_unique (series naturals)
        (λ j b. cut_unique naturals (plane_at-plane a j b) (λ i c. plane_at-right (plane r w a) j i c))
        (λ j b. fun_ext λ i. plane_at-above w (plane r w a) (omega (arith, length-plane a)) j i b ∙ sym (𝟘-at naturals i))

    pub plane_agree : {a b : Plane ℕ} → AgreePlane w r a b → plane r w a ≡ plane r w b
    unfolding plane plane_place
    plane_agree {a} {b} h =
        tabulate_cong (w * r) (plane_place r a) (plane_place r b)
        (λ k c. let (row, place) = row_below w r k c in h (k / r) row (k % r) place)

pub plane-row : (r : ℕ) (a : Plane ℕ) → plane r 1 a ≡ tabulate r (a 0)
unfolding plane plane_place
plane-row r a = rw one-mul (tabulate_cong r (plane_place r a) (a 0) (λ k b. rw (div-eq_of_lt b, mod-eq_of_lt b)))

pub plane-column : (w : ℕ) (a : Plane ℕ) → plane 1 w a ≡ tabulate w (λ j. a j 0)
unfolding plane plane_place
plane-column w a = rw mul-one (tabulate_cong w (plane_place 1 a) (λ j. a j 0) (λ k b. rw (div-one, mod-one)))
