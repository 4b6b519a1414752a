-- The quotient by 1 - y g, and a value of a polynomial as one of its coefficients. Assumes nothing.
--
--   denominator R N g     the series 1 - y g
--   quotient-denominator  P/(1 - y g) by recursion: coefficient k + 1 is P_(k+1) ⊕ g ⊗ (coefficient k)
--   quotient-evaluate     f(g) is coefficient m - 1 of P/(1 - y g), with f's list reversed as P and m its length
use Prim.Native.Nat.{ℕ, zero, suc}
use Rattle.std.specs.Prelude.{length, ◌≡◌}
use Rattle.std.proofs.lemmas.List.{length-reverse, get_or_at}
use Rattle.std.proofs.Math.ListN.{get_or-append}
use mathlib.Core.List.{List, [], ◌∷◌, reverse, reverse-cons}
use Rattle.std.proofs.Common.{lt-suc_self}
use Rattle.algebra.specs.Agree.{Agree, agree_refl}
use Rattle.algebra.specs.Evaluate.{evaluate, evaluate-[], evaluate-∷, polynomial}
use Rattle.algebra.specs.Homomorphism.{Homomorphism, coefficients, coefficients-at}
use Rattle.algebra.specs.Negation.{Negation, signed}
use Rattle.algebra.specs.Quotient.{quotient, quotient-0, quotient-suc, agree_quotient}
use Rattle.algebra.specs.Semiring.{Semiring, ring, ⊗-𝟘, ⊕-𝟘}
use Rattle.algebra.specs.Series.{Series}

module _ {A : Type 0} (R : Semiring A) (N : Negation R) where
  open R use {𝟘, 𝟙, ◌⊕◌, ◌⊗◌}
  open N use {neg}

  unfoldable pub denominator : A → Series A
  denominator g zero = 𝟙
  denominator g (suc zero) = neg g
  denominator g (suc (suc j)) = 𝟘

  pub quotient-denominator : (P : Series A) (g : A) (k : ℕ)
      → quotient R N P (denominator g) (suc k) ≡ P (suc k) ⊕ g ⊗ quotient R N P (denominator g) k
  unfolding denominator
  quotient-denominator P g zero = rw (quotient-suc R N, quotient-0 R N, quotient-0 R N) (simp (ring, signed))
  quotient-denominator P g (suc k) =
      rw (
        quotient-suc R N P (denominator g) (suc k),
        quotient-denominator (λ i. P (suc i) ⊕ neg (P 0 ⊗ denominator g (suc i))) g k,
        quotient-suc R N P (denominator g) k,
      )
      (simp (ring, signed))

module _ {A : Type 0} (R : Semiring A) (x : A) (xs : List A) where
  reverse_last : polynomial R (reverse (x ∷ xs)) (length xs) ≡ x
  reverse_last = rw (reverse-cons x xs) (get_or_at (reverse xs) x [] R.𝟘 (length xs) (length-reverse xs))

  reverse_agree : Agree (length xs) (polynomial R (reverse (x ∷ xs))) (polynomial R (reverse xs))
  reverse_agree k l =
      rw (reverse-cons x xs) (get_or-append (reverse xs) (x ∷ []) R.𝟘 k (rw (length-reverse xs) l))

module _ {A B : Type 0} {R : Semiring A} (S : Semiring B) (M : Negation S) (φ : Homomorphism R S) where
  pub quotient-evaluate : (x : A) (xs : List A) (g : B)
      → quotient S M (coefficients φ (polynomial R (reverse (x ∷ xs)))) (denominator S M g) (length xs)
      ≡ evaluate φ (x ∷ xs) g
  quotient-evaluate x [] g = rw (quotient-0 S M, coefficients-at φ, evaluate-∷ φ, evaluate-[] φ, ⊗-𝟘 S, ⊕-𝟘 S)
  quotient-evaluate x (y ∷ ys) g =
      rw (
        quotient-denominator S M,
        evaluate-∷ φ x,
        ← quotient-evaluate y ys g,
        coefficients-at φ,
        reverse_last R x (y ∷ ys),
        agree_quotient S M earlier (agree_refl (denominator S M g)) (length ys) (lt-suc_self (length ys)),
      )
    where
      earlier : Agree (suc (length ys))
          (coefficients φ (polynomial R (reverse (x ∷ y ∷ ys)))) (coefficients φ (polynomial R (reverse (y ∷ ys))))
      earlier k l = rw (coefficients-at φ, coefficients-at φ, reverse_agree R x (y ∷ ys) k l)
