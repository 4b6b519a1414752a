-- Products in one variable that are written in two parts.
--
--   operands_fewer   fewer places of the same operands
--   added-front      a sum cut to fewer places is the front of the whole
--   added-rest       the rest is the same after the front was written
--   added-parts      the front written, and then the rest: the whole
-- Assumes nothing.
use Prim.Native.Nat.{ℕ, suc, ◌+◌, ◌-◌, ◌%◌, ◌<◌, ◌≤◌}
use Rattle.std.proofs.Common.{le_of_eq, arith, sym, ap, ◌∙◌, length-drop, take-append-drop, get_or-drop, length-take-le}
use Rattle.std.specs.Prelude.{◌≡◌, length, take, drop}
use mathlib.Core.List.{List, ◌++◌}
use Rattle.std.proofs.lemmas.List.Edits.{sets}
use Rattle.std.proofs.Math.Seq.{get_or-take}
use Rattle.algebra.specs.Lists.{lists-equal, sum_cong}
use Rattle.buffer.specs.Segments.{segment, Apart, apart-within, coefficient-segment, segment-kept}
use Rattle.buffer.specs.Written.{get_or-sets-after, sets-append}
use Rattle.coefficients.specs.From.{added_rest, place}
use Rattle.coefficients.specs.Operands.{Operands, added_product, length-added, length-joined}
use Rattle.definition.specs.Lists.{coefficient}
use Rattle.definition.specs.Ranged.{joined}
use Rattle.definition.specs.Substitution.{product, product_term}

product_cong : (a b c d : ℕ → ℕ) (k : ℕ) → ((i : ℕ) → i ≤ k → a i ≡ c i) → ((i : ℕ) → i ≤ k → b i ≡ d i) → product a b k ≡ product c d k
unfolding product product_term
product_cong a b c d k left right =
    sum_cong (suc k) (product_term a b k) (product_term c d k) (λ i h. rw (left i (omega arith), right (k - i) (omega arith)))

module _ (p : ℕ) {n c : ℕ} (few : c ≤ n) (a b t : ℕ) (w : List ℕ) where
  cut : (d i : ℕ) → i < c → coefficient (segment w d c) i ≡ coefficient (segment w d n) i
  cut d i below = coefficient-segment w d c i below ∙ sym (coefficient-segment w d n i (omega arith))

  pub added-front : added_product p c a b t w ≡ take c (added_product p n a b t w)
  unfolding coefficient
  added-front =
      lists-equal c (added_product p c a b t w) (take c (added_product p n a b t w)) (length-added p c a b t w)
      (length-take-le c (added_product p n a b t w) (rw (length-added p n a b t w) few)) same
    where
      same : (k : ℕ) → k < c → coefficient (added_product p c a b t w) k ≡ coefficient (take c (added_product p n a b t w)) k
      same k below =
          rw (
            get_or-take c (added_product p n a b t w) k 0 below,
            place p c (segment w t c) (segment w a c) (segment w b c) k below,
            place p n (segment w t n) (segment w a n) (segment w b n) k (omega arith),
            cut t k below,
            product_cong (coefficient (segment w a c)) (coefficient (segment w b c)) (coefficient (segment w a n)) (coefficient (segment w b n)) k
                (λ i h. cut a i (omega arith)) (λ i h. cut b i (omega arith)),
          )

module _ {p n a b t : ℕ} {w : List ℕ} (o : Operands p n a b t w) (c : ℕ) (few : c ≤ n) where
  pub operands_fewer : Operands p c a b t w
  operands_fewer = record {
    modulus = o.modulus;
    order = omega (arith, o.order);
    left = fewer o.left;
    right = fewer o.right;
  }
    where
      fewer : {d : ℕ} → Apart w d n t n → Apart w d c t c
      fewer apart = apart-within apart (omega arith) (omega arith) (omega arith) (omega arith)

  pub added-rest : (us : List ℕ) → length us ≤ c → added_rest p n a b t c (sets w t us) ≡ added_rest p n a b t c w
  unfolding coefficient
  added-rest us short =
      rw (segment-kept o.left us (omega arith), segment-kept o.right us (omega arith))
      (lists-equal (n - c) (drop c (over (sets w t us))) (drop c (over w)) (size (sets w t us)) (size w) same)
    where
      over : List ℕ → List ℕ
      over v = joined p n (segment v t n) (segment w a n) (segment w b n)

      size : (v : List ℕ) → length (drop c (over v)) ≡ n - c
      size v = rw (length-drop, length-joined p n (segment v t n) (segment w a n) (segment w b n))

      at : (v : List ℕ) (i : ℕ) → i < n - c
          → coefficient (drop c (over v)) i ≡ (coefficient v (t + (c + i)) + product (coefficient (segment w a n)) (coefficient (segment w b n)) (c + i)) % p
      at v i below =
          rw (
            get_or-drop c (over v) i 0,
            place p n (segment v t n) (segment w a n) (segment w b n) (c + i) (omega arith),
            coefficient-segment v t n (c + i) (omega arith),
          )

      same : (i : ℕ) → i < n - c → coefficient (drop c (over (sets w t us))) i ≡ coefficient (drop c (over w)) i
      same i below = rw (at (sets w t us) i below, at w i below, get_or-sets-after w t us (t + (c + i)) 0 (omega arith))

  abbrev front : List ℕ
  front = added_product p c a b t w

  pub added-parts : sets (sets w t front) (t + c) (added_rest p n a b t c (sets w t front)) ≡ sets w t (added_product p n a b t w)
  added-parts =
      let size : length front ≡ c = length-added p c a b t w in
      let whole : front ++ added_rest p n a b t c w ≡ added_product p n a b t w = rw (added-front p few a b t w) (take-append-drop c _) in
      rw (added-rest front (le_of_eq size)) (rw size at (sym (sets-append w t front (added_rest p n a b t c w))) ∙ ap (sets w t) whole)
