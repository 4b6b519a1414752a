-- Products of polynomials in x and y. A polynomial is a function: a j i is the coefficient of y^j x^i.
--
--   square             in a square the terms l and j - l are equal: those below the middle count twice
--   turned a           x and y exchanged
--   turned-product     the product of two turned polynomials is their product, turned
--   product2_comm      the product is commutative
--   product2_agree     below y^m and x^r it depends on its factors only there
--   residues2          a product modulo p is that of the residues
--   residue_negated negative-product   the product with -b modulo p
-- Assumes nothing.
use Rattle.std.specs.Prelude.{ℕ, zero, suc, ◌+◌, ◌-◌, ◌*◌, ◌/◌, ◌%◌, ◌<◌, ◌≤◌, ◌≡◌, refl}
use Rattle.std.proofs.Common.{add_comm, arith, sym, ap, ◌∙◌}
use Rattle.std.proofs.Math.Nat.{mod-mod, suc-sub-suc}
use Rattle.std.proofs.Math.Path.{fun_ext}
use Rattle.algebra.specs.Bridge.{product-series}
use Rattle.algebra.specs.Homomorphism.{coefficients-at, coefficientwise}
use Rattle.algebra.specs.Lists.{sum_cong, sum-naturals}
use Rattle.algebra.specs.Negation.{Negation, ⊗-neg}
use Rattle.algebra.specs.Plane.{Plane, AgreePlane, agree_plane-⊠}
use Rattle.algebra.specs.PlaneBridge.{product2-series, reduced-plane, reduced-product2}
use Rattle.algebra.specs.Residue.{
  Residue,
  neg_value,
  reduction,
  residue,
  residue-equal,
  residue-negative,
  residue-value,
  residues,
  residues_negation,
}
use Rattle.algebra.specs.Semiring.{Semiring, naturals, ⊗_comm}
use Rattle.algebra.specs.Series.{series, series_negation, neg-at}
use Rattle.algebra.specs.Sum as Sum
use Rattle.definition.specs.KinoshitaLi.{cut_product2_at, negative, product2, product2_term}
use Rattle.definition.specs.Lists.{sum}
use Rattle.definition.specs.Substitution.{product, product_term}

sum-reverse : (n : ℕ) (f : ℕ → ℕ) → sum n (λ k. f (n - suc k)) ≡ sum n f
unfolding sum
sum-reverse zero f = refl
sum-reverse (suc n) f =
    let e : suc n - 1 ≡ n = omega arith in
    rw (sum-naturals, Sum.sum_first naturals n (λ k. f (suc n - suc k)), ← sum-naturals, e)
    (simp suc-sub-suc (rw (sum-reverse n f) (add_comm (f n) (sum n f))))

pub square : (a : ℕ → ℕ → ℕ) (j i : ℕ)
    → product2 a a j i ≡ sum ((j + 1) / 2) (product2_term a a j i) + sum (j / 2 + 1) (product2_term a a j i)
unfolding product2 product2_term
square a j i = sum-symmetric j (product2_term a a j i) exchanged
  where
    sum-symmetric : (j : ℕ) (f : ℕ → ℕ) → ((l : ℕ) → l ≤ j → f (j - l) ≡ f l)
        → sum (suc j) f ≡ sum ((j + 1) / 2) f + sum (j / 2 + 1) f
    sum-symmetric j f h =
        let e : suc j ≡ j / 2 + 1 + (j + 1) / 2 = omega arith in
        rw (e, sum-naturals, Sum.sum-+ naturals, ← sum-naturals, ← sum-naturals)
        (add_comm _ _
        ∙ ap (λ s. s + sum (j / 2 + 1) f) (sum_cong ((j + 1) / 2) _ _ above ∙ sum-reverse ((j + 1) / 2) f))
      where
        above : (k : ℕ) → k < (j + 1) / 2 → f (j / 2 + 1 + k) ≡ f ((j + 1) / 2 - suc k)
        above k b =
            let e : j / 2 + 1 + k ≡ j - ((j + 1) / 2 - suc k) = omega arith in
            rw e (h ((j + 1) / 2 - suc k) (omega arith))

    exchanged : (l : ℕ) → l ≤ j → product2_term a a j i (j - l) ≡ product2_term a a j i l
    exchanged l b =
        let e : j - (j - l) ≡ l = omega arith in
        rw (e, product-series, product-series, ⊗_comm (series naturals))

product2-sum : (a b : ℕ → ℕ → ℕ) (j i : ℕ)
    → product2 a b j i ≡ Sum.sum naturals (suc j) (λ l. Sum.sum naturals (suc i) (λ k. a l k * b (j - l) (i - k)))
unfolding product2 product2_term product product_term
product2-sum a b j i =
    sum-naturals (suc j) (product2_term a b j i)
    ∙ Sum.sum_cong naturals (suc j) _ _ (λ l c. sum-naturals (suc i) (product_term (a l) (b (j - l)) i))

unfoldable pub turned : (ℕ → ℕ → ℕ) → ℕ → ℕ → ℕ
turned a i j = a j i

pub turned-product : (a b : ℕ → ℕ → ℕ) (j i : ℕ) → product2 (turned a) (turned b) i j ≡ product2 a b j i
unfolding turned
turned-product a b j i = rw (product2-sum, product2-sum) (Sum.sum_exchange naturals (suc i) (suc j) _)

pub product2_comm : (a b : Plane ℕ) (j i : ℕ) → product2 a b j i ≡ product2 b a j i
product2_comm a b j i = rw (product2-series, product2-series, ⊗_comm (series (series naturals)))

pub product2_agree : {m r : ℕ} {a b c d : Plane ℕ} → AgreePlane m r a c → AgreePlane m r b d
    → AgreePlane m r (product2 a b) (product2 c d)
product2_agree h g = rw (product2-series, product2-series) (agree_plane-⊠ naturals h g)

module _ {p : ℕ} (l : 0 < p) where
  abbrev R : Semiring (Residue p)
  R = residues l

  abbrev N : Negation R
  N = residues_negation l

  open series (series R) use {◌⊗◌}
  open series_negation (series R) (series_negation R N) use {neg}

  reduced-at : (a : Plane ℕ) (j i : ℕ) → reduced-plane l a j i ≡ residue l (a j i)
  reduced-at a j i = rw (coefficients-at (coefficientwise (reduction l))) (coefficients-at (reduction l) (a j) i)

  residue-product : (a b : Plane ℕ) (j i : ℕ) → residue l (product2 a b j i) ≡ (reduced-plane l a ⊗ reduced-plane l b) j i
  residue-product a b j i = sym (reduced-at (product2 a b) j i) ∙ ap (λ s. s j i) (reduced-product2 l a b)

  reduced-residues : (a : Plane ℕ) → reduced-plane l (λ j i. a j i % p) ≡ reduced-plane l a
  reduced-residues a = fun_ext λ j. fun_ext λ i. rw (reduced-at, reduced-at) ((residue-equal l _ _).1 (mod-mod (a j i) p))

  pub residues2 : (a b : Plane ℕ) (j i : ℕ) → cut_product2_at p (λ j i. a j i % p) (λ j i. b j i % p) j i ≡ cut_product2_at p a b j i
  unfolding cut_product2_at
  residues2 a b j i = (residue-equal l _ _).0 (rw (residue-product, residue-product, reduced-residues a, reduced-residues b))

  reduced-negative : (b : Plane ℕ) → reduced-plane l (λ j i. negative p (b j i)) ≡ neg (reduced-plane l b)
  reduced-negative b = fun_ext λ j. fun_ext λ i.
      rw (reduced-at, residue-negative l, neg-at (series R), neg-at R, reduced-at)

  pub residue_negated : (a b : Plane ℕ) (j i : ℕ)
      → residue l (product2 a (λ j i. negative p (b j i)) j i) ≡ N.neg (residue l (product2 a b j i))
  residue_negated a b j i =
      rw (residue-product, residue-product, reduced-negative b, ⊗-neg (series (series R)), neg-at (series R), neg-at R)

  pub negative-product : (a b : Plane ℕ) (j i : ℕ)
      → cut_product2_at p a (λ j i. negative p (b j i)) j i ≡ negative p (cut_product2_at p a b j i)
  unfolding cut_product2_at
  negative-product a b j i =
      rw (← residue-value l, ← residue-value l (product2 a b j i), residue_negated a b) (neg_value l _)
