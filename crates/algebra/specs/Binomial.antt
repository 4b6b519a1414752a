-- Binomial coefficients, and the binomial theorem in a semiring. Assumes nothing.
--
--   binomial-0 binomial-suc    the equations of the definition
--   binomial-above             C(n, k) is 0 for k above n
--   binomial_diagonal          C(n, n) is 1
--   binomial_absorption        (k + 1) C(n + 1, k + 1) is (n + 1) C(n, k)
--   binomial-prime             a prime p divides C(p, k) for 0 < k < p
--   binomial-term R a b n k m  C(n, k) a^k b^m; `binomial-term-at` opens it
--   binomial_theorem           (a ⊕ b)^n is the sum of C(n, k) a^k b^(n - k) over k ≤ n
use Rattle.std.specs.Prelude.{ℕ, zero, suc, ◌+◌, ◌-◌, ◌*◌, ◌<◌, ◌≡◌}
use Rattle.std.specs.Int.{◌∣◌}
use Rattle.std.proofs.Math.Path.{refl}
use Rattle.std.proofs.Common.{sym, ap, ◌∙◌, mod-eq_of_lt, mul-add, mul-zero, suc-mul, suc-ne-zero, arith}
use Rattle.std.proofs.Math.Nat.{dvd-mul_right, suc-sub-suc}
use Rattle.algebra.specs.Natural.{natural, natural-0, natural-1, natural-+}
use Rattle.algebra.specs.Power.{power, power-0, power-suc}
use Rattle.algebra.specs.Prime.{euclid}
use Rattle.algebra.specs.Semiring.{Semiring, ring, 𝟘-⊗, ⊕-⊗, ⊕-𝟘, ⊕-left_comm}
use Rattle.algebra.specs.Sum.{sum, sum-0, sum-suc, sum_first, sum-⊕, ⊗-sum, sum_cong}
use Rattle.definition.specs.Prime.{Prime}
use Rattle.definition.specs.Taylor.{binomial}

pub binomial-0 : (n : ℕ) → binomial n 0 ≡ 1
unfolding binomial
binomial-0 zero = refl
binomial-0 (suc n) = refl

pub binomial-suc : (n k : ℕ) → binomial (suc n) (suc k) ≡ binomial n k + binomial n (suc k)
unfolding binomial
binomial-suc n k = refl

pub binomial-above : (n k : ℕ) → n < k → binomial n k ≡ 0
unfolding binomial
binomial-above n zero l = omega arith
binomial-above zero (suc k) l = refl
binomial-above (suc n) (suc k) l = rw (binomial-above n k (omega arith), binomial-above n (suc k) (omega arith))

pub binomial_diagonal : (n : ℕ) → binomial n n ≡ 1
binomial_diagonal zero = binomial-0 0
binomial_diagonal (suc n) = rw (binomial-suc, binomial_diagonal n, binomial-above n (suc n) (omega arith))

pub binomial_absorption : (n k : ℕ) → suc k * binomial (suc n) (suc k) ≡ suc n * binomial n k
unfolding binomial
binomial_absorption zero zero = refl
binomial_absorption zero (suc k) = mul-zero (suc (suc k))
binomial_absorption (suc n) zero = omega (arith, binomial_absorption n zero)
binomial_absorption (suc n) (suc k) =
    omega (
      arith,
      binomial_absorption n k,
      binomial_absorption n (suc k),
      mul-add (suc (suc k)) (binomial (suc n) (suc k)) (binomial (suc n) (suc (suc k))),
      mul-add (suc n) (binomial n k) (binomial n (suc k)),
      suc-mul (suc k) (binomial (suc n) (suc k)),
      suc-mul (suc n) (binomial (suc n) (suc k)),
    )

pub binomial-prime : {p : ℕ} → Prime p → (k : ℕ) → 0 < k → k < p → p ∣ binomial p k
binomial-prime {p = suc n} P (suc k) l b = euclid P (suc k) (binomial (suc n) (suc k))
    (rw binomial_absorption (dvd-mul_right (suc n) (binomial n k)))
    (rw (mod-eq_of_lt b) (suc-ne-zero k))
binomial-prime {p = suc n} P zero l b = absurd (omega arith)
binomial-prime {p = zero} P k l b = absurd (omega arith)

-- the binomial theorem
module _ {A : Type 0} (R : Semiring A) (a b : A) where
  open R use {𝟘, ◌⊕◌, ◌⊗◌}

  -- C(n, k) a^k b^m
  pub binomial-term : ℕ → ℕ → ℕ → A
  binomial-term n k m = natural R (binomial n k) ⊗ (power R a k ⊗ power R b m)

  pub binomial-term-at : (n k m : ℕ) → binomial-term n k m ≡ natural R (binomial n k) ⊗ (power R a k ⊗ power R b m)
  unfolding binomial-term
  binomial-term-at n k m = refl

  term-above : (n m : ℕ) → binomial-term n (suc n) m ≡ 𝟘
  term-above n m = rw (binomial-term-at, binomial-above n (suc n) (omega arith), natural-0 R, 𝟘-⊗ R)

  term-first : (n m : ℕ) → binomial-term (suc n) 0 m ≡ binomial-term n 0 m
  term-first n m = simp (binomial-term-at, binomial-0)

  term-suc : (n k m : ℕ) → binomial-term (suc n) (suc k) m ≡ a ⊗ binomial-term n k m ⊕ binomial-term n (suc k) m
  term-suc n k m = simp (binomial-term-at, binomial-suc, natural-+ R, power-suc R, ring)

  term_times : (n k m : ℕ) → b ⊗ binomial-term n k m ≡ binomial-term n k (suc m)
  term_times n k m = simp (binomial-term-at, power-suc R, ring)

  -- the terms of C(n, k) a^k b^(n + 1 - k), with the one at k = n + 1, which is 𝟘, and the first split off
  times_b : (n : ℕ) → b ⊗ sum R (suc n) (λ k. binomial-term n k (n - k))
      ≡ binomial-term n 0 (suc n - 0) ⊕ sum R (suc n) (λ k. binomial-term n (suc k) (suc n - suc k))
  times_b n =
      ⊗-sum R (suc n) b (λ k. binomial-term n k (n - k))
      ∙ sum_cong R (suc n) _ (λ k. binomial-term n k (suc n - k))
      (λ k l. term_times n k (n - k) ∙ ap (binomial-term n k) (omega arith))
      ∙ sym (sum-suc R (suc n) (λ k. binomial-term n k (suc n - k)) ∙ rw (term-above n (suc n - suc n), ⊕-𝟘 R))
      ∙ sum_first R (suc n) (λ k. binomial-term n k (suc n - k))

  pub binomial_theorem : (n : ℕ) → power R (a ⊕ b) n ≡ sum R (suc n) (λ k. binomial-term n k (n - k))
  binomial_theorem zero = simp (sum-suc R 0, sum-0 R, binomial-term-at, power-0 R, binomial-0, natural-1 R, ring)
  binomial_theorem (suc n) =
      rw (
        power-suc R,
        binomial_theorem n,
        ⊕-⊗ R,
        times_b n,
        ⊗-sum R,
        sum_first R (suc n) (λ k. binomial-term (suc n) k (suc n - k)),
      )
      (simp (suc-sub-suc, term-first, term-suc, sum-⊕ R, ⊕-left_comm R))
