-- Karatsuba's rule for polynomials in x and y modulo p: their product from those of the even parts, of the odd parts and of the sums of the two.
--
--   karatsuba          a row of the product is woven from those of the three
-- Assumes nothing.
use Prim.Native.Nat.{ℕ, zero, suc, ◌+◌, ◌*◌, ◌/◌, ◌%◌, ◌<◌}
use Rattle.std.proofs.Math.Nat.{add-mod-mod, add-zero, mod-add-mod, mod-mod}
use Rattle.std.proofs.Common.{arith, ap, ◌∙◌}
use Rattle.std.specs.Prelude.{◌≡◌, refl}
use Rattle.std.proofs.Math.Path.{sym, fun_ext}
use Rattle.algebra.specs.Karatsuba.{subtracted, sums}
use Rattle.algebra.specs.Plane.{Plane}
use Rattle.algebra.specs.PlaneBridge.{product2-series}
use Rattle.algebra.specs.Residue.{neg_value, residue, residue-+, residue-value, residues, residues_negation, ⊕-value}
use Rattle.algebra.specs.Semiring.{Semiring, naturals}
use Rattle.algebra.specs.Series.{series, ⊞-at}
use Rattle.definition.specs.KinoshitaLi.{cut_product2_at, even_part, negative, product2}
use Rattle.double_parity.specs.Halves.{folded}
use Rattle.parity.specs.Weave.{delayed, woven-even, woven-odd, woven_at}
use Rattle.planes.specs.Parity.{even-first, even-next, odd-product, odd_part}
use Rattle.planes.specs.Products.{residues2}

-- the sum of the even and the odd part
neighbours : Plane ℕ → Plane ℕ
neighbours a j i = a j (2 * i) + a j (2 * i + 1)

abbrev P : Semiring (Plane ℕ)
P = series (series naturals)

open P use {◌⊕◌, ◌⊗◌}

neighbours-sum : (a : Plane ℕ) → neighbours a ≡ even_part a ⊕ odd_part a
unfolding neighbours even_part odd_part
neighbours-sum a = fun_ext λ j. fun_ext λ i. sym (rw (⊞-at (series naturals), ⊞-at naturals))

module _ (a b : Plane ℕ) (j i : ℕ) where
  neighbours-product : product2 (neighbours a) (neighbours b) j i
      ≡ product2 a b j (2 * i + 1) + (product2 (even_part a) (even_part b) j i + product2 (odd_part a) (odd_part b) j i)
  neighbours-product =
      rw (
        odd-product a b j i,
        neighbours-sum a,
        neighbours-sum b,
        product2-series (even_part a ⊕ odd_part a),
        product2-series (even_part a) (odd_part b),
        product2-series (odd_part a) (even_part b),
        product2-series (even_part a) (even_part b),
        product2-series (odd_part a) (odd_part b),
        sums P,
        ⊞-at (series naturals),
        ⊞-at naturals,
        ⊞-at (series naturals),
        ⊞-at naturals,
        ⊞-at (series naturals),
        ⊞-at naturals,
      )

module _ {p : ℕ} (l : 0 < p) where
  open residues l use {◌⊕◌ as ◌⊞◌}

  infixl 50 ◌⊞◌
  cancelled : (c e o : ℕ) → (((c + (e + o)) % p + negative p (e % p)) % p + negative p (o % p)) % p ≡ c % p
  cancelled c e o = sym (sym (residue-value l c) ∙ ap (λ s. s.0) whole ∙ simp (⊕-value, neg_value, residue-value))
    where
      whole : residue l c ≡ residue l (c + (e + o)) ⊞ (residues_negation l).neg (residue l e) ⊞ (residues_negation l).neg (residue l o)
      whole = rw (residue-+ l c (e + o), residue-+ l e o) (sym (subtracted (residues_negation l) (residue l c) (residue l e) (residue l o)))

  module _ (a b : ℕ → ℕ → ℕ) (j : ℕ) where
    abbrev E : ℕ → ℕ
    E = cut_product2_at p (even_part a) (even_part b) j

    abbrev O : ℕ → ℕ
    O = cut_product2_at p (odd_part a) (odd_part b) j

    abbrev M : ℕ → ℕ
    M = cut_product2_at p (folded p a) (folded p b) j

    middle-at : (i : ℕ) → M i ≡ product2 (neighbours a) (neighbours b) j i % p
    unfolding folded neighbours cut_product2_at
    middle-at i = residues2 l (neighbours a) (neighbours b) j i

    even_place : (i : ℕ) → cut_product2_at p a b j (2 * i) ≡ (E i + delayed O i) % p
    unfolding cut_product2_at delayed
    even_place zero = rw (even-first a b j, add-zero, mod-mod)
    even_place (suc i) = rw (even-next a b j i, mod-add-mod, add-mod-mod)

    odd_place : (i : ℕ) → cut_product2_at p a b j (2 * i + 1) ≡ ((M i + negative p (E i)) % p + negative p (O i)) % p
    unfolding cut_product2_at
    odd_place i = sym (rw (middle-at i, neighbours-product a b j i) (cancelled _ _ _))

    pub karatsuba : (i : ℕ) → cut_product2_at p a b j i ≡ woven_at p E O M i
    karatsuba i = go (i % 2) refl
      where
        go : (o : ℕ) → i % 2 ≡ o → cut_product2_at p a b j i ≡ woven_at p E O M i
        go zero e =
            let same : i ≡ 2 * (i / 2) = omega arith in
            rw (same, woven-even) (even_place (i / 2))
        go (suc o) e =
            let same : i ≡ 2 * (i / 2) + 1 = omega arith in
            rw (same, woven-odd) (odd_place (i / 2))
