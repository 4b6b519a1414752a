-- Spreading: a(x^p) of a series a, for p above 0. Assumes nothing.
--
--   spread R p a        a(x^p): a_(k/p) at the places k that p divides, 𝟘 at the others; `spread_at` opens it
--   spread-naturals     it is the spreading of the definitions, over the natural numbers
--   spread_agree        below n it depends on a only below ⌈n/p⌉
--   coefficients-spread homomorphisms of the coefficients commute with it
--   spread_horner       a(x^p) is a_0 plus x^p times the spread tail
--   spread-substitute   it is the substitution of x^p
--   spread-constant spread-⊞ spread-⊠   it keeps constants, sums and products
--   spreading           it is a homomorphism of the semiring of series
--   power-spread        where the prime p is 𝟘, the p-th power of a series is the spread series of the p-th powers
--   residues-power-spread   g(x)^p is g(x^p) modulo p
use Rattle.std.specs.Prelude.{ℕ, zero, suc, ◌+◌, ◌/◌, ◌%◌, ◌<◌, cond, ◌≡◌, eqb}
use Rattle.std.proofs.Math.Path.{refl, fun_ext}
use Rattle.std.proofs.Common.{ap, ◌∙◌, div-mul-le_self, mod-eq_of_lt, add-one, arith}
use Rattle.std.proofs.Math.Dec.{eqb-suc-zero}
use Rattle.std.proofs.Math.Decide.{dec_lt}
use Rattle.std.proofs.Math.Nat.{add-div_left, add-mod_left, le_dest, zero-div, zero-mod}
use Rattle.algebra.specs.Agree.{Agree}
use Rattle.algebra.specs.Fermat.{fermat-residue}
use Rattle.algebra.specs.Frobenius.{frobenius-⊕, series_characteristic}
use Rattle.algebra.specs.Homomorphism.{Homomorphism, coefficients, coefficients-at, constants, constant-𝟘, map-cond, map-power}
use Rattle.algebra.specs.Lists.{ceil_div-below}
use Rattle.algebra.specs.Natural.{natural}
use Rattle.algebra.specs.Power.{power, power-⊗}
use Rattle.algebra.specs.Residue.{Residue, residues, residues_characteristic}
use Rattle.algebra.specs.Semiring.{Semiring, naturals, ⊕-𝟘, 𝟘-⊕, ⊗-𝟙}
use Rattle.algebra.specs.Series.{
  Series,
  series,
  tail,
  constant,
  constant-0,
  constant-suc,
  constant-above,
  indeterminate,
  decompose,
  𝟙-constant,
  ⊞-at,
  power-⊠-above,
  power-⊠-below,
}
use Rattle.algebra.specs.Substitution.{
  recursion_unique,
  substitute,
  substitute_horner,
  substitute-⊞,
  substitute-⊠,
  substitute-constant,
}
use Rattle.definition.specs.Bernstein as Bernstein
use Rattle.definition.specs.Lists.{ceil_div}
use Rattle.definition.specs.Prime.{Prime}

module _ {A : Type 0} (R : Semiring A) (p : ℕ) where
  open R use {𝟘, 𝟙}
  open series R use {◌⊕◌ as ◌⊞◌, ◌⊗◌ as ◌⊠◌}

  infixl 50 ◌⊞◌
  infixl 60 ◌⊠◌
  pub spread : Series A → Series A
  spread a k = cond (eqb (k % p) 0) (a (k / p)) 𝟘

  pub spread_at : (a : Series A) (k : ℕ) → spread a k ≡ cond (eqb (k % p) 0) (a (k / p)) 𝟘
  unfolding spread
  spread_at a k = refl

  abbrev x^p : Series A
  x^p = power (series R) (indeterminate R) p

  module _ (l : 0 < p) where
    pub spread_agree : {n : ℕ} {a b : Series A} → Agree (ceil_div n p) a b → Agree n (spread a) (spread b)
    spread_agree {n} h k u =
        let b : k / p < ceil_div n p = (ceil_div-below l n (k / p)).1 (omega (arith, div-mul-le_self k p)) in
        rw (spread_at, spread_at, h (k / p) b)

    spread-low : (a : Series A) (k : ℕ) → k < p → spread a k ≡ constant R (a 0) k
    spread-low a zero u = rw (spread_at, zero-mod, zero-div, constant-0 R)
    spread-low a (suc k) u = rw (spread_at, mod-eq_of_lt u, eqb-suc-zero, constant-suc R)

    spread-high : (a : Series A) (k : ℕ) → spread a (p + k) ≡ spread (tail a) k
    spread-high a k = rw (spread_at, spread_at, add-mod_left, add-div_left k l, add-one)

    pub spread_horner : (a : Series A) → spread a ≡ constant R (a 0) ⊞ x^p ⊠ spread (tail a)
    spread_horner a = fun_ext λ k. at k (dec_lt k p)
      where
        at : (k : ℕ) → Dec (k < p) → spread a k ≡ (constant R (a 0) ⊞ x^p ⊠ spread (tail a)) k
        at k (yes u) = rw (⊞-at R, power-⊠-below R p (spread (tail a)) k u, ⊕-𝟘 R) (spread-low a k u)
        at k (no u) =
            let (j, e) = le_dest {n = p} {m = k} (omega arith) in
            rw (← e, ⊞-at R, power-⊠-above R p (spread (tail a)) j, constant-above R (a 0) (p + j) (omega arith), 𝟘-⊕ R)
            (spread-high a j)

    x^p-0 : x^p 0 ≡ 𝟘
    x^p-0 = rw (⊗-𝟙 (series R)) at (power-⊠-below R p (series R).𝟙 0 l)

    pub spread-substitute : (a : Series A) → spread a ≡ substitute R a x^p
    spread-substitute = recursion_unique R x^p x^p-0 (λ a. constant R (a 0)) tail
        spread (λ a. substitute R a x^p) spread_horner (substitute_horner R x^p x^p-0)

    pub spread-constant : (c : A) → spread (constant R c) ≡ constant R c
    spread-constant c = spread-substitute (constant R c) ∙ substitute-constant R x^p x^p-0 c

    pub spread-⊞ : (a b : Series A) → spread (a ⊞ b) ≡ spread a ⊞ spread b
    spread-⊞ a b = simp spread-substitute (substitute-⊞ R a b x^p)

    pub spread-⊠ : (a b : Series A) → spread (a ⊠ b) ≡ spread a ⊠ spread b
    spread-⊠ a b = simp spread-substitute (substitute-⊠ R x^p x^p-0 a b)

    abbrev pub spreading : Homomorphism (series R) (series R)
    spreading = record {
      map = spread;
      map-𝟘 = rw (← constant-𝟘 R) (spread-constant 𝟘);
      map-𝟙 = rw (𝟙-constant R) (spread-constant 𝟙);
      map-⊕ = spread-⊞;
      map-⊗ = spread-⊠;
    }

    -- where the prime p is 𝟘
    module _ (P : Prime p) (c : natural R p ≡ 𝟘) where
      pub power-spread : (g : Series A) → power (series R) g p ≡ spread (λ k. power R (g k) p)
      power-spread = recursion_unique R x^p x^p-0 (λ g. constant R (power R (g 0) p)) tail
          (λ g. power (series R) g p) (λ g. spread (λ k. power R (g k) p))
          (λ g. ap (λ s. power (series R) s p) (decompose R g)
          ∙ rw (frobenius-⊕ (series R) P (series_characteristic R p c), power-⊗ (series R), ← map-power (constants R) (g 0) p))
          (λ g. spread_horner (λ k. power R (g k) p))

pub spread-naturals : (p : ℕ) (a : ℕ → ℕ) → Bernstein.spread p a ≡ spread naturals p a
unfolding Bernstein.spread spread
spread-naturals p a = refl

pub coefficients-spread : {A B : Type 0} {R : Semiring A} {S : Semiring B} (φ : Homomorphism R S) (p : ℕ) (a : Series A)
    → coefficients φ (spread R p a) ≡ spread S p (coefficients φ a)
coefficients-spread {R} {S} φ p a = fun_ext λ k.
    rw (coefficients-at φ, spread_at R, spread_at S, coefficients-at φ) (map-cond φ (eqb (k % p) 0) (a (k / p)))

pub residues-power-spread : {p : ℕ} (l : 0 < p) → Prime p → (g : Series (Residue p))
    → power (series (residues l)) g p ≡ spread (residues l) p g
residues-power-spread {p} l P g =
    power-spread (residues l) p l P (residues_characteristic l) g
    ∙ ap (spread (residues l) p) (fun_ext λ k. fermat-residue l P (g k))
