-- Products of powers of the inner list g, modulo p and cut to n places.
--
--   doubled             b 2^(i + 1) is twice b 2^i
--   IsPower p n g e a   below x^n the list a is g^e modulo p
--   first-power         g is its own first power
--   power-product       the product of two powers is the power of the sum of the exponents
--   joined-power        a join with a power is one with `cut_power`
-- Assumes nothing.
use Rattle.std.specs.Prelude.{ℕ, suc, ◌+◌, ◌*◌, ◌^◌, ◌<◌, List, ◌≡◌}
use Rattle.std.proofs.Common.{mul_assoc, pow-suc, arith, sym}
use Rattle.std.proofs.Math.Path.{ap}
use Rattle.algebra.specs.Agree.{Agree, agree_equal, agree_refl, agree_sym, agree_trans, agree_⊠}
use Rattle.algebra.specs.Bridge.{cut_power-listed, cut_product-listed, listed_agree, residue-series, series-listed, series_of}
use Rattle.algebra.specs.Power.{power, power-1, power-+}
use Rattle.algebra.specs.Residue.{residues}
use Rattle.definition.specs.Ranged.{cut_power, joined}
use Rattle.definition.specs.Substitution.{cut_product, cut_sum}

pub doubled : (b i : ℕ) → b * 2 ^ suc i ≡ b * 2 ^ i + b * 2 ^ i
doubled b i = rw (pow-suc, ← mul_assoc) (omega arith)

pub record IsPower (p n : ℕ) (g : List ℕ) (e : ℕ) (a : List ℕ) : Type 0 where
  agrees : (l : 0 < p) → Agree n (series_of l a) (power (residue-series l) (series_of l g) e)

pub first-power : (p n : ℕ) (g : List ℕ) → IsPower p n g 1 g
first-power p n g = record { agrees = λ l. agree_equal (sym (power-1 (residue-series l) (series_of l g))) }

module _ {p n : ℕ} {g : List ℕ} where
  pub power-product : {d e : ℕ} {a b : List ℕ} → IsPower p n g d a → IsPower p n g e b → IsPower p n g (d + e) (cut_product p n a b)
  power-product {d} {e} {a} {b} left right = record {
    agrees = λ l.
        rw (cut_product-listed l n a b, power-+ (residue-series l))
        (agree_trans (series-listed l n _) (agree_⊠ (residues l) (left.agrees l) (right.agrees l)));
  }

  pub joined-power : {e : ℕ} {u : List ℕ} → 0 < p → (s t : List ℕ) → IsPower p n g e u → joined p n s t u ≡ joined p n s t (cut_power p n g e)
  unfolding joined
  joined-power {e} {u} l s t power =
      ap (cut_sum p n s)
      (rw (cut_product-listed l n t u, cut_product-listed l n t (cut_power p n g e), cut_power-listed l n g e)
      (listed_agree
      (agree_⊠ (residues l) (agree_refl (series_of l t)) (agree_trans (power.agrees l) (agree_sym (series-listed l n _))))))
