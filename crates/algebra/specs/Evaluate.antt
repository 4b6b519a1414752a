-- Evaluation of a polynomial, given by the list of its coefficients. Assumes nothing.
--
--   evaluate φ xs s       the polynomial xs at s, its coefficients taken along the homomorphism φ
--   evaluate-[] evaluate-∷    Horner's rule
--   evaluate-++           the value of an appended list: xs(s) ⊕ s^|xs| ⊗ ys(s)
--   evaluate-sum          the value is the sum of x_i s^i over i < n, for every n from the length on
--   evaluate_cong         lists with the same coefficients have the same value, at any lengths
--   map-evaluate          a homomorphism commutes with evaluation
--   evaluate-map          the value of a list whose entries were mapped by a homomorphism
--   evaluate_agree        evaluation at series respects agreement
--   polynomial R xs       the series with the coefficients xs
--   evaluate-indeterminate    it is the value at x
use Rattle.std.specs.Prelude.{ℕ, zero, suc, ◌+◌, ◌≤◌, get_or, length, List, [], ◌∷◌, ◌++◌, map, ◌≡◌}
use Rattle.std.proofs.Math.Path.{refl, fun_ext}
use Rattle.std.proofs.Common.{sym, ◌∙◌, arith}
use Rattle.algebra.specs.Agree.{Agree, agree_refl, agree_⊞, agree_⊠}
use Rattle.algebra.specs.Homomorphism.{Homomorphism, composite, constants}
use Rattle.algebra.specs.Power.{power, power-0, power-suc}
use Rattle.algebra.specs.Semiring.{Semiring, ring, 𝟘-⊕, 𝟘-⊗, ⊕_assoc, ⊗_assoc, ⊗-⊕, 𝟙-⊗, ⊗-𝟙}
use Rattle.algebra.specs.Series.{Series, series, indeterminate, decompose, 𝟘-at}
use Rattle.algebra.specs.Sum.{sum, sum-𝟘, sum_first, ⊗-sum}

module _ {A B : Type 0} {R : Semiring A} {S : Semiring B} (φ : Homomorphism R S) where
  open S use {𝟘, ◌⊕◌, ◌⊗◌}

  pub evaluate : List A → B → B
  evaluate [] s = 𝟘
  evaluate (x ∷ xs) s = φ.map x ⊕ s ⊗ evaluate xs s

  pub evaluate-[] : (s : B) → evaluate [] s ≡ 𝟘
  unfolding evaluate
  evaluate-[] s = refl

  pub evaluate-∷ : (x : A) (xs : List A) (s : B) → evaluate (x ∷ xs) s ≡ φ.map x ⊕ s ⊗ evaluate xs s
  unfolding evaluate
  evaluate-∷ x xs s = refl

  pub evaluate-++ : (xs ys : List A) (s : B)
      → evaluate (xs ++ ys) s ≡ evaluate xs s ⊕ power S s (length xs) ⊗ evaluate ys s
  evaluate-++ [] ys s = rw (evaluate-[], power-0, 𝟙-⊗, 𝟘-⊕)
  evaluate-++ (x ∷ xs) ys s =
      rw (evaluate-∷, evaluate-++ xs ys s, evaluate-∷, power-suc, ⊗-⊕, ⊕_assoc, ⊗_assoc)

  pub evaluate-sum : (xs : List A) (s : B) (n : ℕ) → length xs ≤ n
      → evaluate xs s ≡ sum S n (λ i. φ.map (get_or xs i R.𝟘) ⊗ power S s i)
  evaluate-sum [] s n l =
      evaluate-[] s ∙ sym (sum-𝟘 S n (λ i. φ.map R.𝟘 ⊗ power S s i) (λ i b. rw (φ.map-𝟘, 𝟘-⊗)))
  evaluate-sum (x ∷ xs) s zero l = absurd (omega arith)
  evaluate-sum (x ∷ xs) s (suc n) l =
      rw (
        sum_first S n (λ i. φ.map (get_or (x ∷ xs) i R.𝟘) ⊗ power S s i),
        power-0,
        ⊗-𝟙,
        evaluate-∷,
        evaluate-sum xs s n (omega arith),
        ⊗-sum,
      )
      (simp (power-suc, ring))

  pub evaluate_cong : (xs ys : List A) (s : B) → ((i : ℕ) → get_or xs i R.𝟘 ≡ get_or ys i R.𝟘)
      → evaluate xs s ≡ evaluate ys s
  evaluate_cong xs ys s h =
      rw (
        evaluate-sum xs s (length xs + length ys) (omega arith),
        evaluate-sum ys s (length xs + length ys) (omega arith),
      ) (simp h)

module _ {A B C : Type 0} {R : Semiring A} {S : Semiring B} {T : Semiring C}
    (ψ : Homomorphism S T) (φ : Homomorphism R S) where
  pub map-evaluate : (χ : Homomorphism R T) → ((a : A) → ψ.map (φ.map a) ≡ χ.map a)
      → (xs : List A) (s : B) → ψ.map (evaluate φ xs s) ≡ evaluate χ xs (ψ.map s)
  map-evaluate χ h [] s = rw (evaluate-[], evaluate-[], ψ.map-𝟘)
  map-evaluate χ h (x ∷ xs) s =
      rw (evaluate-∷, evaluate-∷, ψ.map-⊕, ψ.map-⊗, h x, map-evaluate χ h xs s)

  pub evaluate-map : (xs : List A) (t : C)
      → evaluate ψ (map φ.map xs) t ≡ evaluate (composite ψ φ) xs t
  evaluate-map [] t = rw (evaluate-[], evaluate-[])
  evaluate-map (x ∷ xs) t = rw (evaluate-∷, evaluate-∷, evaluate-map xs t)

module _ {A B : Type 0} {R : Semiring A} (S : Semiring B) (φ : Homomorphism R (series S)) where
  pub evaluate_agree : {n : ℕ} (xs : List A) {s t : Series B} → Agree n s t
      → Agree n (evaluate φ xs s) (evaluate φ xs t)
  evaluate_agree [] h = rw (evaluate-[], evaluate-[]) (agree_refl _)
  evaluate_agree (x ∷ xs) h =
      rw (evaluate-∷, evaluate-∷)
      (agree_⊞ S (agree_refl (φ.map x)) (agree_⊠ S h (evaluate_agree xs h)))

abbrev pub polynomial : {A : Type 0} → Semiring A → List A → Series A
polynomial R xs k = get_or xs k R.𝟘

module _ {A : Type 0} (R : Semiring A) where
  pub evaluate-indeterminate : (xs : List A)
      → evaluate (constants R) xs (indeterminate R) ≡ polynomial R xs
  evaluate-indeterminate [] = evaluate-[] (constants R) (indeterminate R) ∙ fun_ext (𝟘-at R)
  evaluate-indeterminate (x ∷ xs) =
      rw (evaluate-∷, evaluate-indeterminate xs) (sym (decompose R (polynomial R (x ∷ xs))))
