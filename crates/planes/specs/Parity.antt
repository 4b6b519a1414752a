-- Even and odd powers of x in products of polynomials in x and y.
--
--   odd_part a          the odd powers of x, x^i for x^(2 i + 1)
--   even-first even-next odd-product   the even and the odd part of a product, from products of the parts of its factors
--   odd_part-squared    a(x^2, y) has no odd powers of x
--   squared-even squared-odd   those of a(x^2, y) times b
--   opposite-first opposite-even opposite-odd   those of a(x, y) a(-x, y) modulo p
-- Assumes nothing.
use Rattle.std.specs.Prelude.{ℕ, zero, suc, ◌+◌, ◌*◌, ◌/◌, ◌%◌, ◌<◌, ◌≡◌, refl}
use Rattle.std.proofs.Math.Nat.{add-mod-mod, mod-add-mod}
use Rattle.std.proofs.Common.{add-zero, add-one, sym, ◌∙◌}
use native.Mathlib.Omega.{arith}
use Rattle.std.proofs.Math.Path.{ap, fun_ext}
use Rattle.algebra.specs.Alternate.{even, odd}
use Rattle.algebra.specs.Karatsuba.{even-⊠, odd-⊠}
use Rattle.algebra.specs.Negation.{neg-⊕_self}
use Rattle.algebra.specs.Plane.{Plane}
use Rattle.algebra.specs.PlaneBridge.{product2-series}
use Rattle.algebra.specs.Residue.{residue-+, residue-zero, residues}
use Rattle.algebra.specs.Semiring.{Semiring, naturals, 𝟘-⊗, ⊕-𝟘}
use Rattle.algebra.specs.Series.{Series, series, shift, shift-0, shift_suc, indeterminate-⊠, ⊞-at, 𝟘-at}
use Rattle.definition.specs.Bernstein.{spread}
use Rattle.definition.specs.KinoshitaLi.{cut_product2_at, even_part, negative, opposite, product2, squared}
use Rattle.planes.specs.Products.{negative-product, product2_comm, residue_negated, turned, turned-product}

unfoldable pub odd_part : (ℕ → ℕ → ℕ) → ℕ → ℕ → ℕ
odd_part a j i = a j (2 * i + 1)

-- polynomials in x over those in y

abbrev S : Semiring (Series ℕ)
S = series naturals

open series S use {◌⊕◌, ◌⊗◌}

turned-⊗ : (a b : Plane ℕ) → turned (product2 a b) ≡ turned a ⊗ turned b
unfolding turned
turned-⊗ a b = fun_ext λ i. fun_ext λ j. sym (turned-product a b j i) ∙ rw product2-series

turned-even : (a : Plane ℕ) → even (turned a) ≡ turned (even_part a)
unfolding turned even_part
turned-even a = refl

turned-odd : (a : Plane ℕ) → odd (turned a) ≡ turned (odd_part a)
unfolding turned odd_part
turned-odd a = fun_ext λ i. fun_ext λ j. rw add-one

module _ (a b : Plane ℕ) where
  even-turned : turned (even_part (product2 a b))
      ≡ turned (product2 (even_part a) (even_part b)) ⊕ shift S (turned (product2 (odd_part a) (odd_part b)))
  even-turned =
      sym (turned-even (product2 a b))
      ∙ ap even (turned-⊗ a b)
      ∙ even-⊠ S (turned a) (turned b)
      ∙ rw (turned-even a, turned-even b, turned-odd a, turned-odd b, indeterminate-⊠ S, ← turned-⊗, ← turned-⊗)

  odd-turned : turned (odd_part (product2 a b)) ≡ turned (product2 (even_part a) (odd_part b)) ⊕ turned (product2 (odd_part a) (even_part b))
  odd-turned =
      sym (turned-odd (product2 a b))
      ∙ ap odd (turned-⊗ a b)
      ∙ odd-⊠ S (turned a) (turned b)
      ∙ rw (turned-even a, turned-even b, turned-odd a, turned-odd b, ← turned-⊗, ← turned-⊗)

  module _ (j : ℕ) where
    pub even-first : product2 a b j 0 ≡ product2 (even_part a) (even_part b) j 0
    unfolding turned even_part
    even-first = ap (λ s. s 0 j) even-turned ∙ rw (⊞-at S, shift-0 S, ⊕-𝟘 S)

    pub even-next : (i : ℕ)
        → product2 a b j (2 * suc i) ≡ product2 (even_part a) (even_part b) j (suc i) + product2 (odd_part a) (odd_part b) j i
    unfolding turned even_part
    even-next i = ap (λ s. s (suc i) j) even-turned ∙ rw (⊞-at S, shift_suc S, ⊞-at naturals)

    pub odd-product : (i : ℕ)
        → product2 a b j (2 * i + 1) ≡ product2 (even_part a) (odd_part b) j i + product2 (odd_part a) (even_part b) j i
    unfolding turned odd_part
    odd-product i = ap (λ s. s i j) odd-turned ∙ rw (⊞-at S, ⊞-at naturals)

-- a(x^2, y)

even_part-squared : (u : Plane ℕ) → even_part (squared u) ≡ u
unfolding even_part squared spread
even_part-squared u = fun_ext λ j. fun_ext λ i.
    let e : 2 * i % 2 ≡ 0 = omega arith in
    let f : 2 * i / 2 ≡ i = omega arith in
    rw (e, f)

pub odd_part-squared : (u : Plane ℕ) (j i : ℕ) → odd_part (squared u) j i ≡ 0
unfolding odd_part squared spread
odd_part-squared u j i = let e : (2 * i + 1) % 2 ≡ 1 = omega arith in rw e

no_odd-part : (u : Plane ℕ) → odd_part (squared u) ≡ (series S).𝟘
no_odd-part u = fun_ext λ j. fun_ext λ i. odd_part-squared u j i ∙ sym (rw (𝟘-at S, 𝟘-at naturals))

zero-product : (b : Plane ℕ) (j i : ℕ) → product2 (series S).𝟘 b j i ≡ 0
zero-product b j i = rw (product2-series, 𝟘-⊗ (series S), 𝟘-at S, 𝟘-at naturals)

module _ (u b : Plane ℕ) (j : ℕ) where
  pub squared-even : (i : ℕ) → product2 (squared u) b j (2 * i) ≡ product2 u (even_part b) j i
  squared-even zero = even-first (squared u) b j ∙ rw even_part-squared
  squared-even (suc i) = even-next (squared u) b j i ∙ rw (even_part-squared, no_odd-part, zero-product, add-zero)

  pub squared-odd : (i : ℕ) → product2 (squared u) b j (2 * i + 1) ≡ product2 u (odd_part b) j i
  squared-odd i = odd-product (squared u) b j i ∙ rw (even_part-squared, no_odd-part, zero-product, add-zero)

-- a(x, y) a(-x, y)

module _ (p : ℕ) (a : Plane ℕ) where
  even_part-opposite : even_part (opposite p a) ≡ even_part a
  unfolding even_part opposite
  even_part-opposite = fun_ext λ j. fun_ext λ i. let e : 2 * i % 2 ≡ 0 = omega arith in rw e

  odd_part-opposite : odd_part (opposite p a) ≡ (λ j i. negative p (odd_part a j i))
  unfolding odd_part opposite
  odd_part-opposite = fun_ext λ j. fun_ext λ i. let e : (2 * i + 1) % 2 ≡ 1 = omega arith in rw e

  pub opposite-first : (j : ℕ) → cut_product2_at p a (opposite p a) j 0 ≡ cut_product2_at p (even_part a) (even_part a) j 0
  unfolding cut_product2_at
  opposite-first j = rw (even-first a (opposite p a) j, even_part-opposite)

module _ {p : ℕ} (l : 0 < p) (a : Plane ℕ) (j i : ℕ) where
  pub opposite-even : cut_product2_at p a (opposite p a) j (2 * suc i)
      ≡ (cut_product2_at p (even_part a) (even_part a) j (suc i) + negative p (cut_product2_at p (odd_part a) (odd_part a) j i)) % p
  unfolding cut_product2_at
  opposite-even =
      rw (← negative-product l (odd_part a) (odd_part a) j i, mod-add-mod, add-mod-mod, ← odd_part-opposite p a)
      (rw (even-next a (opposite p a) j i, even_part-opposite))

  pub opposite-odd : cut_product2_at p a (opposite p a) j (2 * i + 1) ≡ 0
  unfolding cut_product2_at
  opposite-odd =
      rw (odd-product a (opposite p a) j i, even_part-opposite, odd_part-opposite, product2_comm (odd_part a))
      ((residue-zero l _).0 (rw (residue-+ l, residue_negated l (even_part a) (odd_part a), neg-⊕_self (residues l))))
