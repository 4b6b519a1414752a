-- The p-th power in a semiring in which the prime p is 𝟘. Assumes nothing.
--
--   frobenius-⊕ frobenius-𝟘   (a ⊕ b)^p is a^p ⊕ b^p, and 𝟘^p is 𝟘
--   frobenius         the p-th power is a homomorphism, so `map-sum` of it is the law for finite sums
--   series_characteristic   p is 𝟘 among the series too
use Rattle.std.specs.Prelude.{ℕ, suc, ◌+◌, ◌-◌, ◌<◌, ◌≡◌}
use Rattle.std.specs.Int.{◌∣◌}
use Rattle.std.proofs.Common.{sym, ap, ◌∙◌, suc-add, arith}
use Rattle.std.proofs.Math.Nat.{mul-div_cancel', le_dest, sub_self, sub-zero}
use Rattle.algebra.specs.Binomial.{binomial-0, binomial_diagonal, binomial-prime, binomial-term, binomial-term-at, binomial_theorem}
use Rattle.algebra.specs.Homomorphism.{Homomorphism, constants}
use Rattle.algebra.specs.Natural.{natural, natural-1, natural-*, map-natural}
use Rattle.algebra.specs.Power.{power, power-0, power-𝟘, power-𝟙, power-⊗}
use Rattle.algebra.specs.Semiring.{Semiring, ⊕_comm, 𝟘-⊗, 𝟙-⊗, ⊗-𝟙}
use Rattle.algebra.specs.Series.{series}
use Rattle.algebra.specs.Sum.{sum, sum_first, sum_single}
use Rattle.definition.specs.Prime.{Prime}
use Rattle.definition.specs.Taylor.{binomial}

pub series_characteristic : {A : Type 0} (R : Semiring A) (p : ℕ) → natural R p ≡ R.𝟘 → natural (series R) p ≡ (series R).𝟘
series_characteristic R p c = sym (map-natural (constants R) p) ∙ ap (constants R).map c ∙ (constants R).map-𝟘

module _ {A : Type 0} (R : Semiring A) {p : ℕ} (P : Prime p) (c : natural R p ≡ R.𝟘) where
  open R use {𝟘, ◌⊕◌}

  natural_multiple : (m : ℕ) → p ∣ m → natural R m ≡ 𝟘
  natural_multiple m d = rw (← mul-div_cancel' p d, natural-* R, c, 𝟘-⊗ R)

  -- of the terms of (a ⊕ b)^p only the first and the last are not 𝟘
  abbrev term : A → A → ℕ → A
  term a b k = binomial-term R a b p k (p - k)

  term-first : (a b : A) → term a b 0 ≡ power R b p
  term-first a b = rw (binomial-term-at R, binomial-0, natural-1 R, power-0 R, 𝟙-⊗ R, 𝟙-⊗ R, sub-zero)

  term_last : (a b : A) → term a b p ≡ power R a p
  term_last a b = rw (binomial-term-at R, binomial_diagonal, natural-1 R, sub_self, power-0 R, 𝟙-⊗ R, ⊗-𝟙 R)

  term-between : (a b : A) (k : ℕ) → 0 < k → k < p → term a b k ≡ 𝟘
  term-between a b k l u = rw (binomial-term-at R, natural_multiple (binomial p k) (binomial-prime P k l u), 𝟘-⊗ R)

  terms-after-first : (a b : A) → sum R p (λ k. term a b (suc k)) ≡ power R a p
  terms-after-first a b =
      let l : 1 < p = P.above-one in
      let e : suc (p - 1) ≡ p = omega arith in
      sum_single R p (p - 1) (λ k. term a b (suc k)) (omega arith)
      (λ k u z. term-between a b (suc k) (omega arith) (omega arith))
      ∙ rw (e, term_last)

  pub frobenius-⊕ : (a b : A) → power R (a ⊕ b) p ≡ power R a p ⊕ power R b p
  frobenius-⊕ a b =
      binomial_theorem R a b p ∙ sum_first R p (term a b) ∙ rw (term-first a b, terms-after-first a b, ⊕_comm R)

  pub frobenius-𝟘 : power R 𝟘 p ≡ 𝟘
  frobenius-𝟘 = let (k, e) = le_dest P.above-one in rw (← e, suc-add) (power-𝟘 R (1 + k))

  abbrev pub frobenius : Homomorphism R R
  frobenius = record {
    map = λ a. power R a p;
    map-𝟘 = frobenius-𝟘;
    map-𝟙 = power-𝟙 R p;
    map-⊕ = frobenius-⊕;
    map-⊗ = λ a b. power-⊗ R a b p;
  }
