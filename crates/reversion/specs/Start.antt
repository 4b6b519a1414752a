-- The series with which Newton's iteration begins: a reverse series at order 1 or 2.
--
--   started_at p g       its coefficients: 0, the inverse of g's linear coefficient, zeros
--   started p n g       these as a list of n places
--   started-zeros       a buffer of one place, cleared
--   started-put         a longer one, cleared, with the inverse written
--   started-reversion   the list of one or two places is a reverse series
-- Assumes nothing.
use Prim.Native.Nat.{ℕ, zero, suc, ◌-◌, ◌%◌, ◌^◌, ◌<◌, ◌≤◌}
use Rattle.std.proofs.Common.{mod-eq_of_lt, arith, length-set, get_or-set_other, get_or-set_same, append-nil, ◌∙◌}
use Rattle.std.proofs.Math.Nat.{mod-lt, mul_comm}
use Rattle.std.proofs.Math.ListN.{length, length-replicate, get_or-replicate}
use Rattle.std.specs.Prelude.{set, replicate, false, List, ◌≢◌, ◌≡◌}
use Rattle.std.proofs.Math.Seq.{drop-length}
use Rattle.std.proofs.Math.Path.{sym}
use Rattle.algebra.specs.Bounded.{below, bounded}
use Rattle.algebra.specs.Bridge.{series_of}
use Rattle.algebra.specs.Composition.{series-constant}
use Rattle.algebra.specs.Fermat.{inverse}
use Rattle.algebra.specs.Homomorphism.{coefficients-at}
use Rattle.algebra.specs.Inverse.{reverse-reversion}
use Rattle.algebra.specs.Lists.{coefficient-tabulate, length-tabulate, table_of}
use Rattle.algebra.specs.Prime.{prime-positive}
use Rattle.algebra.specs.Residue.{reduction, residue-1, residue-*, residue-equal, residues}
use Rattle.algebra.specs.Reversion.{Reverse, reverse-below-1, reverse-below-2}
use Rattle.definition.specs.Answer.{cleared}
use Rattle.definition.specs.Lists.{coefficient, tabulate}
use Rattle.definition.specs.Prime.{Prime}
use Rattle.definition.specs.Refusal.{exceeds}
use Rattle.definition.specs.Reversion.{Reversion}

unfoldable pub started_at : ℕ → List ℕ → ℕ → ℕ
started_at p g zero = 0
started_at p g (suc zero) = coefficient g 1 ^ (p - 2) % p
started_at p g (suc (suc k)) = 0

unfoldable pub started : ℕ → ℕ → List ℕ → List ℕ
started p n g = tabulate n (started_at p g)

-- the buffer

all_cleared : (h : List ℕ) → cleared (length h) h ≡ replicate (length h) 0
unfolding cleared
all_cleared h = rw (drop-length, append-nil)

module _ (p : ℕ) (g h : List ℕ) where
  pub started-zeros : {v : List ℕ} → v ≡ cleared (length h) h → length h ≤ 1 → v ≡ started p (length h) g
  unfolding started started_at coefficient
  started-zeros {v} e few =
      e ∙ all_cleared h ∙ table_of (length h) (started_at p g) (replicate (length h) 0) (length-replicate (length h) 0) at
    where
      at : (i : ℕ) → i < length h → coefficient (replicate (length h) 0) i ≡ started_at p g i
      at zero b = get_or-replicate {A = ℕ} (length h) 0 0 0 b
      at (suc i) b = absurd (omega arith)

  pub started-put : {v : List ℕ} {c : ℕ} → v ≡ cleared (length h) h → 1 < length h → c ≡ coefficient g 1 ^ (p - 2) % p
      → set v 1 c ≡ started p (length h) g
  unfolding started started_at coefficient
  started-put {v} {c} e several put =
      rw (e, all_cleared h) (table_of n (started_at p g) (set zeros 1 c) (length-set zeros 1 c ∙ length-replicate n 0) at)
    where
      n : ℕ
      n = length h

      zeros : List ℕ
      zeros = replicate n 0

      at : (i : ℕ) → i < n → coefficient (set zeros 1 c) i ≡ started_at p g i
      at zero b = get_or-set_other zeros 1 0 c 0 (λ z. omega arith) ∙ get_or-replicate {A = ℕ} n 0 0 0 b
      at (suc zero) b = get_or-set_same zeros 1 c 0 (rw length-replicate b) ∙ put
      at (suc (suc i)) b = get_or-set_other zeros 1 (suc (suc i)) c 0 (λ z. omega arith) ∙ get_or-replicate {A = ℕ} n (suc (suc i)) 0 0 b

-- the reverse series

module _ {p : ℕ} (P : Prime p) (g : List ℕ) (small : exceeds p g ≡ false) (constant-free : coefficient g 0 ≡ 0) where
  l : 0 < p
  l = prime-positive P

  started_below : (k : ℕ) → exceeds p (started p k g) ≡ false
  unfolding started started_at
  started_below k =
      bounded p (started p k g)
      (λ i b. rw (coefficient-tabulate k (started_at p g) i (rw length-tabulate at b)) (at i))
    where
      at : (i : ℕ) → started_at p g i < p
      at zero = l
      at (suc zero) = mod-lt _ l
      at (suc (suc i)) = l

  started-constant : (k : ℕ) → 0 < k → coefficient (started p k g) 0 ≡ 0
  unfolding started started_at
  started-constant k b = coefficient-tabulate k (started_at p g) 0 b

  started-linear : (k : ℕ) → 1 < k → coefficient g 1 ≢ 0
      → (residues l).◌⊗◌ (series_of l (started p k g) 1) (series_of l g 1) ≡ (residues l).𝟙
  unfolding started started_at
  started-linear k b z =
      rw (
        coefficients-at (reduction l),
        coefficients-at (reduction l),
        coefficient-tabulate k (started_at p g) 1 b,
        ← residue-* l,
        mul_comm,
        ← residue-1 l,
      )
      ((residue-equal l _ 1).1
      (inverse P (coefficient g 1) (λ e. z (sym (mod-eq_of_lt (below l g small 1)) ∙ e)) ∙ sym (mod-eq_of_lt P.above-one)))

  pub started-reversion : (k : ℕ) → 0 < k → k ≤ 2 → (1 < k → coefficient g 1 ≢ 0) → Reversion p k g (started p k g)
  unfolding started
  started-reversion k b few linear =
      reverse-reversion l P.above-one g (started p k g) (length-tabulate k _) (started_below k) (started-constant k b)
      (reverse k b few linear)
    where
      g_0 : series_of l g 0 ≡ (residues l).𝟘
      g_0 = series-constant l g constant-free

      h-0 : (k : ℕ) → 0 < k → series_of l (started p k g) 0 ≡ (residues l).𝟘
      h-0 k b = series-constant l (started p k g) (started-constant k b)

      reverse : (k : ℕ) → 0 < k → k ≤ 2 → (1 < k → coefficient g 1 ≢ 0)
          → Reverse (residues l) k (series_of l g) (series_of l (started p k g))
      reverse zero b few linear = absurd (omega arith)
      reverse (suc zero) b few linear = reverse-below-1 (residues l) g_0 (h-0 1 b)
      reverse (suc (suc zero)) b few linear =
          reverse-below-2 (residues l) g_0 (h-0 2 b) (started-linear 2 (omega arith) (linear (omega arith)))
      reverse (suc (suc (suc k))) b few linear = absurd (omega arith)
