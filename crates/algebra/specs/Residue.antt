-- Residues modulo p, for p above 0: the numbers below p, with a remainder after each operation. Assumes nothing.
--
--   Residue p             the numbers below p
--   residue l n           the residue of a natural number; l is the proof that p is above 0
--   residue-value         its value is the remainder of n
--   residue-equal         residues are equal exactly when the remainders are
--   residue-zero          a residue is 𝟘 exactly when the remainder is 0
--   residue-own           a residue is the residue of its value
--   residues l            the semiring of residues
--   residues_negation l   its negation
--   ⊕-value neg_value     values of sums and of negatives
--   residue-0 residue-1 residue-+ residue-* residue-power residue-negative   residues of 0, 1, sums, products, powers, negatives
--   reduction l           the homomorphism from the natural numbers to the residues
--   natural-residue       a natural number in the semiring of residues is its residue
--   residues_characteristic   p is 𝟘 among the residues
use Prim.Native.Nat.{ℕ, ◌+◌, ◌-◌, ◌*◌, ◌%◌, ◌^◌, ◌<◌, Fin}
use Rattle.std.specs.Prelude.{◌↔◌, ◌≡◌}
use Rattle.std.proofs.Math.Path.{refl, ap}
use Rattle.std.proofs.Common.{sym, ◌∙◌, add_assoc, add_comm, mod-lt, mul-add, mul_assoc, mul_comm, zero-mul, le_of_lt}
use Rattle.std.proofs.Math.Nat.{add-mod-mod, mod-add-mod, mod-eq_of_lt, mod-mod, mod_self, one-mul, zero-add, zero-mod, add-sub_of_le}
use Rattle.algebra.specs.Homomorphism.{Homomorphism, map-power}
use Rattle.algebra.specs.Natural.{natural, map-natural, natural-naturals, power-naturals}
use Rattle.algebra.specs.Negation.{Negation}
use Rattle.algebra.specs.Power.{power}
use Rattle.algebra.specs.Remainder.{mod-mul-mod, mul-mod-mod}
use Rattle.algebra.specs.Semiring.{Semiring, naturals}
use Rattle.definition.specs.KinoshitaLi.{negative}

abbrev pub Residue : ℕ → Type 0
Residue p = Fin p

module _ {p : ℕ} (l : 0 < p) where
  pub residue : ℕ → Residue p
  residue n = (n % p, mod-lt n l)

  pub residue-value : (n : ℕ) → (residue n).0 ≡ n % p
  unfolding residue
  residue-value n = refl

  pub residue-equal : (m n : ℕ) → (residue m ≡ residue n) ↔ (m % p ≡ n % p)
  unfolding residue
  residue-equal m n = ((λ e i. (e i).0), native.Mathlib.Fin.val_path)

  pub residue-own : (a : Residue p) → residue a.0 ≡ a
  unfolding residue
  residue-own a = native.Mathlib.Fin.val_path (mod-eq_of_lt a.1)

  pub residues : Semiring (Residue p)
  unfolding residue
  residues = record {
    𝟘 = residue 0;
    𝟙 = residue 1;
    ◌⊕◌ = λ a b. residue (a.0 + b.0);
    ◌⊗◌ = λ a b. residue (a.0 * b.0);
    ⊕_assoc = λ a b c. native.Mathlib.Fin.val_path (rw (mod-add-mod, add-mod-mod, add_assoc));
    ⊕_comm = λ a b. ap residue (add_comm a.0 b.0);
    𝟘-⊕ = λ a. native.Mathlib.Fin.val_path (rw (zero-mod, zero-add, mod-eq_of_lt a.1));
    ⊗_assoc = λ a b c. native.Mathlib.Fin.val_path (rw (mod-mul-mod, mul-mod-mod, mul_assoc));
    ⊗_comm = λ a b. ap residue (mul_comm a.0 b.0);
    𝟙-⊗ = λ a. native.Mathlib.Fin.val_path (rw (mod-mul-mod, one-mul, mod-eq_of_lt a.1));
    ⊗-⊕ = λ a b c. native.Mathlib.Fin.val_path (rw (mul-mod-mod, mod-add-mod, add-mod-mod, mul-add));
    𝟘-⊗ = λ a. native.Mathlib.Fin.val_path (rw (mod-mul-mod, zero-mul));
  }

  pub ⊕-value : (a b : Residue p) → (residues.◌⊕◌ a b).0 ≡ (a.0 + b.0) % p
  unfolding residues residue
  ⊕-value a b = refl

  pub residues_negation : Negation residues
  unfolding residues residue
  residues_negation = record {
    neg = λ a. residue (p - a.0);
    ⊕-neg = λ a. native.Mathlib.Fin.val_path (rw (add-mod-mod, add-sub_of_le (le_of_lt a.1), mod_self, zero-mod));
  }

  pub neg_value : (a : Residue p) → (residues_negation.neg a).0 ≡ negative p a.0
  unfolding residues_negation residue negative
  neg_value a = rw (mod-eq_of_lt a.1)

  open residues use {𝟘, 𝟙, ◌⊕◌, ◌⊗◌}

  pub residue-0 : residue 0 ≡ 𝟘
  unfolding residues
  residue-0 = refl

  pub residue-zero : (n : ℕ) → (residue n ≡ 𝟘) ↔ (n % p ≡ 0)
  residue-zero n = rw (zero-mod, residue-0) at (residue-equal n 0)

  pub residue-1 : residue 1 ≡ 𝟙
  unfolding residues
  residue-1 = refl

  pub residue-+ : (m n : ℕ) → residue (m + n) ≡ residue m ⊕ residue n
  unfolding residues residue
  residue-+ m n = native.Mathlib.Fin.val_path (rw (mod-add-mod, add-mod-mod))

  pub residue-* : (m n : ℕ) → residue (m * n) ≡ residue m ⊗ residue n
  unfolding residues residue
  residue-* m n = native.Mathlib.Fin.val_path (rw (mod-mul-mod, mul-mod-mod))

  pub residue-negative : (n : ℕ) → residue (negative p n) ≡ residues_negation.neg (residue n)
  unfolding residues_negation residue negative
  residue-negative n = native.Mathlib.Fin.val_path (mod-mod (p - n % p) p)

  abbrev pub reduction : Homomorphism naturals residues
  reduction = record { map = residue; map-𝟘 = residue-0; map-𝟙 = residue-1; map-⊕ = residue-+; map-⊗ = residue-* }

  pub natural-residue : (n : ℕ) → natural residues n ≡ residue n
  natural-residue n = sym (map-natural reduction n) ∙ ap residue (natural-naturals n)

  pub residue-power : (n k : ℕ) → residue (n ^ k) ≡ power residues (residue n) k
  residue-power n k = rw (← power-naturals n k) (map-power reduction n k)

  pub residues_characteristic : natural residues p ≡ 𝟘
  residues_characteristic = natural-residue p ∙ (residue-equal p 0).1 (mod_self p ∙ sym (zero-mod p)) ∙ residue-0
