-- The division at order 1: a / b as a series in one variable, on one list.
--
--   reversed reversed-table   place i of a reversed list, and the table of its places
--   complement p b      1 - b modulo p, for a series b with constant term 1
--   complement-suc      its coefficients from power 1 on
--   Divided             the contract of `divide`
--   length-quotient     the first k coefficients of a / b
--   divided_factor      1 - b is written first: what its inverse requires
--   divided             a times the inverse of b is a / b
-- Assumes nothing.
use Rattle.std.specs.Prelude.{ℕ, zero, suc, ◌+◌, ◌*◌, ◌^◌, ◌<◌, ◌≤◌, ◌≡◌, refl, length, get_or}
use Rattle.std.proofs.Common.{add-zero, add-one, arith, inl, ap, ◌∙◌, length-append}
use Rattle.std.proofs.Math.Path.{sym}
use mathlib.Core.List.{List, [], ◌∷◌, reverse, reverse-cons}
use Rattle.std.proofs.lemmas.List.{length-reverse, get_or_at}
use Rattle.std.proofs.Math.ListN.{get_or-append}
use Rattle.std.proofs.lemmas.List.Edits.{sets}
use Rattle.algebra.specs.Agree.{Agree, agree_sym, agree_trans}
use Rattle.algebra.specs.Bridge.{cut_product-listed, listed_agree, reduced, series_of}
use Rattle.algebra.specs.Homomorphism.{coefficients-at}
use Rattle.algebra.specs.Lists.{coefficient-tabulate, length-tabulate, tabulate-coefficient}
use Rattle.algebra.specs.PlaneBridge.{quotient-listed}
use Rattle.algebra.specs.Residue.{Residue, reduction, residue-0, residue-negative, residues, residues_negation}
use Rattle.algebra.specs.Semiring.{Semiring}
use Rattle.buffer.specs.Written.{get_or-sets-inside, length_part}
use Rattle.definition.specs.KinoshitaLi.{negative, quotient}
use Rattle.definition.specs.Lists.{coefficient, tabulate}
use Rattle.definition.specs.Substitution.{cut_product}
use Rattle.buffer.specs.Segments.{segment}
use Rattle.division.specs.Doubling.{Inverted, Inverting, standing, standing-kept, standing-segment, standing-written}
use Rattle.division.specs.Inverse.{Inverse, inverse_agree, inverse-quotient}
use Rattle.product.specs.Single.{Multiplied, multiplied-value, multiplied-within}
use Rattle.buffer.specs.Within.{Within, within-sets, within_trans, within_wider, segment-sets, segment-within}

pub reversed : {A : Type 0} (d : A) (l : List A) (i j : ℕ) → i + j + 1 ≡ length l → get_or (reverse l) i d ≡ get_or l j d
reversed d [] i j e = absurd (omega arith)
reversed d (x ∷ l) i zero e =
    ap (λ s. get_or s i d) (reverse-cons x l) ∙ get_or_at (reverse l) x [] d i (length-reverse l ∙ omega arith)
reversed d (x ∷ l) i (suc j) e =
    ap (λ s. get_or s i d) (reverse-cons x l)
    ∙ get_or-append (reverse l) (x ∷ []) d i (rw length-reverse (omega arith))
    ∙ reversed d l i j (omega arith)

pub reversed-table : (f : List ℕ) → tabulate (length f) (coefficient (reverse f)) ≡ reverse f
reversed-table f = rw (← length-reverse f) (tabulate-coefficient (reverse f))

unfoldable pub complement : ℕ → (ℕ → ℕ) → ℕ → ℕ
complement p b zero = 0
complement p b (suc j) = negative p (b (suc j))

pub complement-suc : (p : ℕ) (b : ℕ → ℕ) (j : ℕ) → (j ≡ 0 → ⊥) → complement p b j ≡ negative p (b j)
unfolding complement
complement-suc p b zero h = absurd (h refl)
complement-suc p b (suc j) h = refl

pub record Divided (p m count : ℕ) (before after : List ℕ) : Type 0 where
  pub quotient : segment after count m ≡ quotient p m (coefficient (segment before count m)) (coefficient (segment before 0 count))
  pub within : Within count (4 * m) before after

pub length-quotient : (p k : ℕ) (a b : ℕ → ℕ) → length (quotient p k a b) ≡ k
unfolding quotient
length-quotient p zero a b = refl
length-quotient p (suc k) a b = rw (length-append, length-quotient p k a b, add-one)

-- b stands in the first t places of w, a in the m places behind them; then 1 - b is written in the m places behind these
module _ (p m t : ℕ) (w : List ℕ) {w₁ : List ℕ} (modulus : 0 < p) (order : m ≤ 2 ^ 30) (fits : t + 4 * m ≤ length w)
    (put : w₁ ≡ sets w (t + m) (tabulate m (complement p (coefficient (segment w 0 t))))) where
  abbrev a : ℕ → ℕ
  a = coefficient (segment w t m)

  abbrev b : ℕ → ℕ
  b = coefficient (segment w 0 t)

  factor : Within (t + m) m w w₁
  factor = rw put (within-sets w (t + m) (tabulate m (complement p b)) (omega arith) (rw length-tabulate (omega arith)))

  pub divided_factor : Inverting p m (t + m) w₁
  unfolding coefficient complement
  divided_factor = record {
    modulus = modulus;
    order = order;
    places = omega (arith, factor.size);
    no_constant = λ some.
        let size = length-tabulate m (complement p b) in
        rw (add-zero, ← put) at (get_or-sets-inside w (t + m) (tabulate m (complement p b)) 0 0 (omega (arith, size)) (omega (arith, size)))
        ∙ coefficient-tabulate m (complement p b) 0 some;
  }

  module _ {s : ℕ} {w₂ w₃ : List ℕ} (inverted : Inverted p m (t + m) m w₁ w₂)
      (multiplied : Multiplied p m t (t + m + m) (t + m + m + m) w₂ w₃ s) where
    abbrev R : Semiring (Residue p)
    R = residues modulus

    kept-factor : Agree m (reduced modulus (complement p b)) (standing modulus w₂ (t + m))
    kept-factor =
        agree_sym
        (agree_trans (standing-kept modulus inverted.within (t + m) m (inl (omega arith)))
        (rw put
        (agree_trans
        (standing-written modulus w (t + m) (tabulate m (complement p b)) m (length-tabulate m (complement p b)) (omega arith))
        (λ k h. rw (coefficients-at (reduction modulus), coefficients-at (reduction modulus), coefficient-tabulate m (complement p b) k h)))))

    inverse : Inverse R m (reduced modulus (complement p b)) (series_of modulus (segment w₂ (t + m + m) m))
    inverse = inverse_agree R kept-factor (standing-segment modulus w₂ (t + m + m) m) (inverted.inverse modulus)

    product : cut_product p m (segment w t m) (segment w₂ (t + m + m) m) ≡ quotient p m a b
    unfolding complement
    product =
        cut_product-listed modulus m (segment w t m) (segment w₂ (t + m + m) m)
        ∙ listed_agree
        (inverse-quotient R (residues_negation modulus) (reduced modulus (complement p b)) (reduced modulus b)
        (coefficients-at (reduction modulus) (complement p b) 0 ∙ residue-0 modulus)
        (λ j above.
        rw (
          coefficients-at (reduction modulus),
          coefficients-at (reduction modulus),
          complement-suc p b j (λ e. omega arith),
          residue-negative modulus,
        ))
        (reduced modulus a) inverse)
        ∙ sym (quotient-listed modulus a b m)

    pub divided : Divided p m t w (sets w₃ t (segment w₃ (t + m + m + m) m))
    divided = record {
      quotient =
          segment-sets w₃ t u m size (omega (arith, length-w₃))
          ∙ written
          ∙ rw (segment-within inverted.within t m (inl (omega arith)), segment-within factor t m (inl (omega arith))) product;
      within =
          within_trans (within_wider (omega arith) (omega arith) factor)
          (within_trans (within_wider (omega arith) (omega arith) inverted.within)
          (within_trans (within_wider (omega arith) (omega arith) (multiplied-within multiplied))
          (within-sets w₃ t u (omega arith) (rw size (omega arith)))));
    }
      where
        u : List ℕ
        u = segment w₃ (t + m + m + m) m

        length-w₃ : length w₃ ≡ length w
        length-w₃ = (multiplied-within multiplied).size ∙ inverted.within.size ∙ factor.size

        written : u ≡ cut_product p m (segment w₂ t m) (segment w₂ (t + m + m) m)
        written = multiplied-value multiplied (omega (arith, inverted.within.size, factor.size))

        size : length u ≡ m
        size = length_part w₃ (t + m + m + m) m (omega (arith, length-w₃))
