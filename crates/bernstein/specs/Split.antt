-- Route 3 on lists, for a prime p: f(g) modulo x^n from the values of the parts of f at order ⌈n/p⌉.
--
--   composed_part p n f g j   part j, composed at order ⌈n/p⌉ with h of the first ⌈n/p⌉ places of g
--   joined_from P n f g j     the parts from j on, joined by Horner's rule in g
--   joined_top               of the top part nothing is joined
--   joined-next              the join of one part more
--   joined_all               with all parts joined this is f(g)
-- Assumes nothing.
use Prim.Native.Nat.{ℕ, suc, ◌+◌, ◌-◌, ◌<◌, min}
use Rattle.std.proofs.Math.Decide.{dec_lt}
use Rattle.std.proofs.Common.{add-zero, add-suc, le_refl, mod-lt, suc-add, zero-add, sym, ap, ◌∙◌}
use Rattle.std.proofs.Math.Nat.{min-le_left, mod-mod, sub-zero}
use native.Mathlib.Omega.{arith}
use Rattle.std.specs.Prelude.{◌≡◌, List, length, take}
use Rattle.algebra.specs.Agree.{Agree, agree_refl, agree_trans, agree_⊞, agree_⊠}
use Rattle.algebra.specs.Bridge.{
  series_of,
  residue-series,
  scalars,
  value,
  listed,
  listed_agree,
  series-listed,
  composed-listed,
  joined-listed,
  spread_list-listed,
}
use Rattle.algebra.specs.Composition.{series-composed}
use Rattle.algebra.specs.Evaluate.{evaluate_agree}
use Rattle.algebra.specs.Homomorphism.{coefficients-at}
use Rattle.algebra.specs.Lists.{coefficient-tabulate, tabulate_beyond}
use Rattle.algebra.specs.Parts.{bernstein}
use Rattle.algebra.specs.Power.{power, power-0, power-suc}
use Rattle.algebra.specs.Prime.{prime-positive}
use Rattle.algebra.specs.Residue.{Residue, residues, reduction, residue-equal}
use Rattle.algebra.specs.Semiring.{Semiring, ring, 𝟙-⊗, 𝟘-⊕}
use Rattle.algebra.specs.Series.{Series}
use Rattle.algebra.specs.Spread.{spread, spread_agree, residues-power-spread}
use Rattle.algebra.specs.Sum.{sum, sum-0, sum-suc, sum_first, sum_cong, sum-⊗}
use Rattle.definition.specs.Bernstein.{part, pth_powers, spread_list}
use Rattle.definition.specs.Lists.{coefficient, ceil_div}
use Rattle.definition.specs.Prime.{Prime}
use Rattle.definition.specs.Ranged.{joined}
use Rattle.definition.specs.Substitution.{composed, composed_at, substituted}
use Rattle.parts.specs.Steps.{coefficient-powers}
use Rattle.buffer.specs.Segments.{coefficient-segment}

abbrev pub composed_part : ℕ → ℕ → List ℕ → List ℕ → ℕ → List ℕ
composed_part p n f g j = composed p (ceil_div n p) (part p j f) (pth_powers p (take (ceil_div n p) g))

-- the sum of s^i times t (j + i) for k terms, by Horner's rule
module _ {A : Type 0} (S : Semiring A) (s : A) (t : ℕ → A) where
  open S use {◌⊕◌, ◌⊗◌}

  abbrev terms : ℕ → ℕ → A
  terms j k = sum S k (λ i. power S s i ⊗ t (j + i))

  terms-1 : (j : ℕ) → terms j 1 ≡ t j
  terms-1 j = rw (sum-suc S 0 _, sum-0, 𝟘-⊕ S, power-0, 𝟙-⊗ S, add-zero)

  terms-suc : (j k : ℕ) → terms j (suc k) ≡ t j ⊕ terms (suc j) k ⊗ s
  terms-suc j k =
      rw (sum_first S k _, power-0, 𝟙-⊗ S, add-zero, sum-⊗ S)
      (ap (λ r. t j ⊕ r) (sum_cong S k _ _ (λ i b. simp (power-suc, add-suc, suc-add, ring))))

module _ {p : ℕ} (P : Prime p) where
  positive : 0 < p
  positive = prime-positive P

  -- over the residues h is g, below ⌈n/p⌉
  powers_agree : (n : ℕ) (g : List ℕ) → Agree n (series_of positive (pth_powers p (take n g))) (series_of positive g)
  powers_agree n g k b =
      rw (coefficients-at (reduction positive), coefficients-at (reduction positive))
      ((residue-equal positive _ _).1 (rw (coefficient-powers P (take n g) k, mod-mod, coefficient-segment g 0 n k b, zero-add)))

  composed-below : (n : ℕ) (f g : List ℕ) (k : ℕ) → coefficient (composed p n f g) k < p
  unfolding composed composed_at
  composed-below n f g k =
      elim (dec_lt k n) [
        | yes b ↦ rw (coefficient-tabulate n (composed_at p f g) k b) (mod-lt (substituted f (coefficient g) k) positive)
        | no b ↦ rw (tabulate_beyond n (composed_at p f g) k (omega arith)) positive
      ]

  open residue-series positive use {◌⊕◌ as ◌⊞◌, ◌⊗◌ as ◌⊠◌}

  module _ (n : ℕ) (f g : List ℕ) where
    abbrev inner : Series (Residue p)
    inner = series_of positive g

    -- part j of f at g, with x^p put for y
    abbrev term : ℕ → Series (Residue p)
    term j = spread (residues positive) p (value positive (part p j f) inner)

    spread-part : (j : ℕ) → spread_list p n (composed_part p n f g j) ≡ listed n (term j)
    spread-part j =
        let order = ceil_div n p in
        let h = pth_powers p (take order g) in
        spread_list-listed positive p n (composed_part p n f g j) (composed-below order (part p j f) h)
        ∙ listed_agree
        (spread_agree (residues positive) p positive
        (agree_trans (series-composed positive order (part p j f) h)
        (evaluate_agree (residues positive) (scalars positive) (part p j f) (powers_agree order g))))

    -- the sum of g^i times part j + i, for k parts
    abbrev parts : ℕ → ℕ → Series (Residue p)
    parts = terms (residue-series positive) inner term

    pub joined_from : ℕ → List ℕ
    joined_from j = listed n (parts j (min p (length f) - j))

    pub joined_top : (j : ℕ) → suc j ≡ min p (length f) → spread_list p n (composed_part p n f g j) ≡ joined_from j
    unfolding joined_from
    joined_top j e =
        let one : min p (length f) - j ≡ 1 = omega arith in
        spread-part j ∙ rw one (ap (listed n) (sym (terms-1 (residue-series positive) inner term j)))

    pub joined-next : (j : ℕ) → j < min p (length f) → joined p n (spread_list p n (composed_part p n f g j)) (joined_from (suc j)) g ≡ joined_from j
    unfolding joined_from
    joined-next j b =
        let more : min p (length f) - j ≡ suc (min p (length f) - suc j) = omega arith in
        rw (spread-part j, joined-listed positive, more, terms-suc (residue-series positive) inner term j (min p (length f) - suc j))
        (listed_agree
        (agree_⊞ (residues positive) (series-listed positive n (term j))
        (agree_⊠ (residues positive) (series-listed positive n _) (agree_refl inner))))

    pub joined_all : joined_from 0 ≡ composed p n f g
    unfolding joined_from
    joined_all =
        rw (composed-listed positive n f g)
        (ap (listed n)
        (simp (sub-zero, zero-add) (sym
        (bernstein (residues positive) (reduction positive) positive (residues-power-spread positive P)
        f inner (min p (length f)) (min-le_left p (length f)) (le_refl _)))))
