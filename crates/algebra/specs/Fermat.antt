-- Residues modulo a prime p: no zero divisors, Fermat's little theorem, inverses. Assumes nothing.
--
--   residues_domain     residues modulo a prime have no zero divisors
--   fermat-residue      a^p is a, for a residue a
--   fermat              the same of natural numbers: a^p and a have the same remainder
--   inverse             a times a^(p - 2) has remainder 1 where p does not divide a
--   residue-inverse     the inverse of a residue that is not 𝟘
use Rattle.std.specs.Prelude.{ℕ, suc, ◌-◌, ◌*◌, ◌%◌, ◌^◌, ◌<◌, ◌≢◌, ◌≡◌}
use Rattle.std.specs.Int.{◌∣◌}
use Rattle.std.proofs.Common.{◌∙◌, subst, subst₂, mod-eq_of_lt, arith}
use Rattle.std.proofs.Math.Nat.{dvd_of_mod-eq-zero, mod-eq-zero_of_dvd}
use Rattle.algebra.specs.Domain.{NoZeroDivisors, ⊗_cancel}
use Rattle.algebra.specs.Frobenius.{frobenius}
use Rattle.algebra.specs.Natural.{map-natural}
use Rattle.algebra.specs.Power.{power, power-suc}
use Rattle.algebra.specs.Prime.{euclid, prime-positive}
use Rattle.algebra.specs.Remainder.{mul-mod-mod}
use Rattle.algebra.specs.Residue.{
  Residue,
  residue,
  residues,
  residues_negation,
  residue-1,
  residue-*,
  residue-power,
  residue-equal,
  residue-own,
  natural-residue,
  residue-zero,
  residues_characteristic,
}
use Rattle.algebra.specs.Semiring.{⊗-𝟙}
use Rattle.definition.specs.Prime.{Prime}

module _ {p : ℕ} (l : 0 < p) (P : Prime p) where
  open residues l use {𝟘, 𝟙, ◌⊗◌}

  pub residues_domain : NoZeroDivisors (residues l)
  residues_domain a b = subst₂ (λ x y. x ≢ 𝟘 → x ⊗ y ≡ 𝟘 → y ≡ 𝟘) (residue-own l a) (residue-own l b) (on a.0 b.0)
    where
      on : (m n : ℕ) → residue l m ≢ 𝟘 → residue l m ⊗ residue l n ≡ 𝟘 → residue l n ≡ 𝟘
      on m n z e =
          let d : p ∣ m * n = dvd_of_mod-eq-zero p ((residue-zero l (m * n)).0 (residue-* l m n ∙ e)) in
          (residue-zero l n).1 (mod-eq-zero_of_dvd p (euclid P m n d (λ r. z ((residue-zero l m).1 r))))

  pub fermat-residue : (a : Residue p) → power (residues l) a p ≡ a
  fermat-residue a =
      subst (λ x. power (residues l) x p ≡ x) (natural-residue l a.0 ∙ residue-own l a)
      (map-natural (frobenius (residues l) P (residues_characteristic l)) a.0)

  pub residue-inverse : (a : Residue p) → a ≢ 𝟘 → a ⊗ power (residues l) a (p - 2) ≡ 𝟙
  residue-inverse a z =
      let e : suc (suc (p - 2)) ≡ p = omega (arith, P.above-one) in
      ⊗_cancel (residues l) residues_domain (residues_negation l) a z
      (rw (← power-suc (residues l) a (p - 2), ← power-suc (residues l) a (suc (p - 2)), e, ⊗-𝟙 (residues l)) (fermat-residue a))

module _ {p : ℕ} (P : Prime p) where
  pub fermat : (a : ℕ) → (a ^ p) % p ≡ a % p
  fermat a = let l = prime-positive P in (residue-equal l (a ^ p) a).0 (residue-power l a p ∙ fermat-residue l P (residue l a))

  pub inverse : (a : ℕ) → a % p ≢ 0 → (a * (a ^ (p - 2) % p)) % p ≡ 1
  inverse a z =
      let l = prime-positive P in
      rw mul-mod-mod
      ((residue-equal l (a * a ^ (p - 2)) 1).0
      (rw (residue-*, residue-power, residue-1) (residue-inverse l P (residue l a) (λ e. z ((residue-zero l a).0 e))))
      ∙ mod-eq_of_lt P.above-one)
