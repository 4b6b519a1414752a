-- The parts of a polynomial by powers modulo p: f(s) is the sum of s^j f_j(s^p) over j < p. Route 3 is this law. Assumes nothing.
--
--   evaluate-coefficients   the value of a list of natural numbers as the sum of its coefficients times powers
--   part_count-below     i is below the count of part j exactly when j + p i is below the length
--   coefficient-part    coefficient i of part j is coefficient j + p i
--   evaluate-parts      f(s) is the sum of s^j f_j(s^p) over j < q, for q from min(p, m) to p, where m is the length of f
--   bernstein           where g(x)^p is g(x^p): f(g) is the sum of g^j h_j(x^p) over j < q, with h_j = f_j(g)
use Prim.Native.Nat.{ℕ, ◌+◌, ◌*◌, ◌<◌, ◌≤◌, min}
use Rattle.std.specs.Prelude.{◌↔◌, ◌≡◌, length}
use mathlib.Core.List.{List, []}
use Rattle.std.proofs.Math.Path.{sym}
use Rattle.std.proofs.Common.{ap, ◌∙◌}
use Rattle.std.proofs.Math.Decide.{dec_lt}
use Rattle.std.proofs.Math.Nat.{mul_comm}
use native.Mathlib.Omega.{arith, by_contra}
use Rattle.algebra.specs.Evaluate.{evaluate, evaluate-[], evaluate_cong, evaluate-sum, map-evaluate}
use Rattle.algebra.specs.Homomorphism.{Homomorphism, composite, constants}
use Rattle.algebra.specs.Lists.{
  ceil_div-count,
  ceil_div-covers,
  coefficient_beyond,
  coefficient-tabulate,
  length-tabulate,
  tabulate_beyond,
}
use Rattle.algebra.specs.Power.{power, power-+, power-*}
use Rattle.algebra.specs.Semiring.{Semiring, naturals, ⊗-𝟘, ⊗-left_comm}
use Rattle.algebra.specs.Series.{Series, series}
use Rattle.algebra.specs.Spread.{spread, spreading, spread-constant}
use Rattle.algebra.specs.Sum.{sum, sum_cong, sum_beyond, sum-blocks, ⊗-sum}
use Rattle.definition.specs.Bernstein.{part, part_at, part_count}
use Rattle.definition.specs.Lists.{ceil_div, coefficient}

pub evaluate-coefficients : {B : Type 0} {S : Semiring B} (φ : Homomorphism naturals S) (f : List ℕ) (s : B) (n : ℕ)
    → length f ≤ n → evaluate φ f s ≡ sum S n (λ i. S.◌⊗◌ (φ.map (coefficient f i)) (power S s i))
unfolding coefficient
evaluate-coefficients φ f s n l = evaluate-sum φ f s n l

module _ {p : ℕ} (l : 0 < p) where
  pub part_count-below : (m j i : ℕ) → (i < part_count p j m) ↔ (j + p * i < m)
  unfolding part_count
  part_count-below = ceil_div-count l

  pub coefficient-part : (j : ℕ) (f : List ℕ) (i : ℕ) → coefficient (part p j f) i ≡ coefficient f (j + p * i)
  unfolding part part_at
  coefficient-part j f i = go (dec_lt i (part_count p j (length f)))
    where
      go : Dec (i < part_count p j (length f)) → coefficient (part p j f) i ≡ coefficient f (j + p * i)
      go (yes u) = coefficient-tabulate (part_count p j (length f)) (part_at p j f) i u
      go (no u) =
          tabulate_beyond (part_count p j (length f)) (part_at p j f) i (omega arith)
          ∙ sym (coefficient_beyond f (j + p * i) (by_contra _ _ (λ b. u ((part_count-below (length f) j i).1 b))))

  part_length : (j : ℕ) (f : List ℕ) → length (part p j f) ≤ ceil_div (length f) p
  unfolding part
  part_length j f =
      let c : ℕ = ceil_div (length f) p in
      rw length-tabulate (by_contra (part_count p j (length f)) c (λ b.
      omega (arith, (part_count-below (length f) j c).0 b, ceil_div-covers l (length f), mul_comm p c)))

  module _ {B : Type 0} {S : Semiring B} (φ : Homomorphism naturals S) (s : B) where
    open S use {𝟘, ◌⊗◌}

    part_beyond : (j : ℕ) (f : List ℕ) (t : B) → length f ≤ j → evaluate φ (part p j f) t ≡ 𝟘
    unfolding coefficient
    part_beyond j f t b =
        evaluate_cong φ (part p j f) [] t (λ i. coefficient-part j f i ∙ coefficient_beyond f (j + p * i) (omega arith))
        ∙ evaluate-[] φ t

    part-sum : (j : ℕ) (f : List ℕ)
        → sum S (ceil_div (length f) p) (λ i. φ.map (coefficient f (j + p * i)) ⊗ power S s (j + p * i))
        ≡ power S s j ⊗ evaluate φ (part p j f) (power S s p)
    part-sum j f =
        rw (evaluate-coefficients φ (part p j f) (power S s p) (ceil_div (length f) p) (part_length j f), ⊗-sum S)
        (simp (coefficient-part j f, power-+ S, power-* S, ⊗-left_comm S))

    pub evaluate-parts : (f : List ℕ) (q : ℕ) → q ≤ p → min p (length f) ≤ q
        → evaluate φ f s ≡ sum S q (λ j. power S s j ⊗ evaluate φ (part p j f) (power S s p))
    evaluate-parts f q u b =
        evaluate-coefficients φ f s (ceil_div (length f) p * p) (ceil_div-covers l (length f))
        ∙ sum-blocks S (ceil_div (length f) p) p (λ i. φ.map (coefficient f i) ⊗ power S s i)
        ∙ sum_cong S p _ (λ j. power S s j ⊗ evaluate φ (part p j f) (power S s p)) (λ j v. part-sum j f)
        ∙ sum_beyond S q p _ u (λ j v w. rw (part_beyond j f (power S s p) (omega arith), ⊗-𝟘 S))

-- over a semiring R where the p-th power of a series spreads it, as over the residues modulo a prime p by `residues-power-spread`
module _ {A : Type 0} (R : Semiring A) (φ : Homomorphism naturals R) {p : ℕ} (l : 0 < p)
    (frobenius : (g : Series A) → power (series R) g p ≡ spread R p g) where
  open series R use {◌⊗◌ as ◌⊠◌}

  infixl 60 ◌⊠◌
  abbrev ψ : Homomorphism naturals (series R)
  ψ = composite (constants R) φ

  module _ (f : List ℕ) (g : Series A) (q : ℕ) (u : q ≤ p) (b : min p (length f) ≤ q) where
    pub bernstein : evaluate ψ f g ≡ sum (series R) q (λ j. power (series R) g j ⊠ spread R p (evaluate ψ (part p j f) g))
    bernstein =
        evaluate-parts l ψ g f q u b
        ∙ sum_cong (series R) q _ _ (λ j v. ap (λ h. power (series R) g j ⊠ h) (spread_out (part p j f)))
      where
        spread_out : (h : List ℕ) → evaluate ψ h (power (series R) g p) ≡ spread R p (evaluate ψ h g)
        spread_out h =
            rw (frobenius g) (sym (map-evaluate (spreading R p l) ψ ψ (λ c. spread-constant R p l (φ.map c)) h g))
