-- The effective length of a list, by what is zero and what is not. Assumes nothing.
--
--   effective_next effective_found   a place that is zero does not count; one that is not is the last so far
--   effective_zero    from the effective length on, the list is zero
--   effective_last    just before it, the list is not
--   effective_only    no other number is so
--   effective_few     it is not above the count of places
use Prim.Native.Nat.{ℕ, zero, suc, ◌<◌, ◌≤◌}
use Rattle.std.proofs.Common.{eq-or-lt_of_le, le_antisymm, le_of_suc-le-suc, ne_eqb, inl, inr}
use Rattle.std.proofs.Math.Nat.{le_refl}
use native.Mathlib.Omega.{arith, by_contra}
use Rattle.std.specs.Prelude.{length, List, ◌≢◌, ◌⊎◌, ◌≡◌}
use Rattle.std.proofs.Math.Path.{refl}
use Rattle.definition.specs.Lists.{coefficient, effective_below, effective_length}
use Rattle.algebra.specs.Lists.{coefficient_beyond}

module _ (l : List ℕ) where
  pub effective_next : (k : ℕ) → coefficient l k ≡ 0 → effective_below l (suc k) ≡ effective_below l k
  unfolding effective_below
  effective_next k e = rw e

  pub effective_found : (k : ℕ) → coefficient l k ≢ 0 → effective_below l (suc k) ≡ suc k
  unfolding effective_below
  effective_found k some = rw (ne_eqb (coefficient l k) 0 some)

  -- what is so of the first k places: their effective length is not above k, they are zero from there on, and not just before
  record Ends (k e : ℕ) : Type 0 where
    few : e ≤ k
    zero_on : (i : ℕ) → e ≤ i → i < k → coefficient l i ≡ 0
    last : (i : ℕ) → e ≡ suc i → coefficient l i ≢ 0

  -- one place more: it is zero, or it is the last
  ends_next : (k : ℕ) → Ends k (effective_below l k) → (c : ℕ) → coefficient l k ≡ c → Ends (suc k) (effective_below l (suc k))
  ends_next k before zero e =
      rw (effective_next k e)
      (record {
        few = omega (arith, before.few);
        zero_on = λ i above below. at i above (eq-or-lt_of_le (le_of_suc-le-suc below));
        last = before.last;
      })
    where
      at : (i : ℕ) → effective_below l k ≤ i → (i ≡ k) ⊎ (i < k) → coefficient l i ≡ 0
      at i above (inl same) = rw same e
      at i above (inr below) = before.zero_on i above below
  ends_next k before (suc c) e =
      rw (effective_found k (λ z. omega arith))
      (record {
        few = le_refl (suc k);
        zero_on = λ i above below. absurd (omega arith);
        last = clash;
      })
    where
      clash : (i : ℕ) → suc k ≡ suc i → coefficient l i ≢ 0
      clash i same z = let at-k : k ≡ i = omega arith in omega (arith, rw at-k at e)

  ends : (k : ℕ) → Ends k (effective_below l k)
  unfolding effective_below
  ends zero = record { few = le_refl 0; zero_on = λ i a b. absurd (omega arith); last = λ i e. absurd (omega arith) }
  ends (suc k) = ends_next k (ends k) (coefficient l k) refl

  pub effective_few : effective_length l ≤ length l
  unfolding effective_length
  effective_few = (ends (length l)).few

  pub effective_zero : (k : ℕ) → effective_length l ≤ k → coefficient l k ≡ 0
  unfolding effective_length
  effective_zero k above = go (coefficient l k) refl
    where
      go : (c : ℕ) → coefficient l k ≡ c → coefficient l k ≡ 0
      go zero e = e
      go (suc c) e =
          (ends (length l)).zero_on k above (by_contra (suc k) (length l) (λ beyond. omega (arith, coefficient_beyond l k (omega arith))))

  pub effective_last : (k : ℕ) → effective_length l ≡ suc k → coefficient l k ≢ 0
  unfolding effective_length
  effective_last = (ends (length l)).last

  pub effective_only : (e : ℕ) → ((k : ℕ) → e ≤ k → coefficient l k ≡ 0) → ((k : ℕ) → e ≡ suc k → coefficient l k ≢ 0) → e ≡ effective_length l
  effective_only e zeros last = le_antisymm (not_above e (effective_length l) last effective_zero) (not_above (effective_length l) e effective_last zeros)
    where
      -- a number just before which the list is not zero is not above one from which on it is
      not_above : (a b : ℕ) → ((k : ℕ) → a ≡ suc k → coefficient l k ≢ 0) → ((k : ℕ) → b ≤ k → coefficient l k ≡ 0) → a ≤ b
      not_above zero b last zeros = omega arith
      not_above (suc k) b last zeros = by_contra (suc k) b (λ above. last k refl (zeros k (omega arith)))
