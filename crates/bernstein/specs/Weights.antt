-- The weight of route 3, by levels, for p above 1.
--
--   weight_of_part p n m j   the weight of part j of m places
--   weight-low             at most one place: no product
--   weight-parts           the q - 1 products of the join, and the weights of the parts
--   weight-small           the weight of orders and counts up to the limit fits 63 bits
-- Assumes nothing.
use Prim.Native.Nat.{ℕ, zero, suc, ◌+◌, ◌*◌, ◌-◌, ◌^◌, ◌<◌, ◌≤◌, min}
use Rattle.std.proofs.Math.Decide.{dec_le}
use Rattle.std.proofs.Common.{le_refl, mul-le-mul_left, add-mul, ap, ◌∙◌, le-leb}
use Rattle.std.proofs.Math.Nat.{le_trans, min-le_right, mul-le-mul, mul-le-mul_right, mul_comm, suc-mul}
use native.Mathlib.Omega.{arith}
use Rattle.std.specs.Prelude.{◌≡◌, refl}
use Rattle.std.proofs.Math.Path.{sym}
use Rattle.std.proofs.lemmas.Bool.{lt-leb}
use Rattle.algebra.specs.Lists.{sum_cong, sum-naturals}
use Rattle.algebra.specs.Semiring.{naturals}
use Rattle.algebra.specs.Sum.{⊗-sum}
use Rattle.definition.specs.Bernstein.{part_count}
use Rattle.definition.specs.Lists.{sum, ceil_div}
use Rattle.definition.specs.Refusal.{limit}
use Rattle.definition.specs.Weight.{bernstein_levels, bernstein_weight}
use Rattle.parts.specs.Counts.{ceil_div-half, part_count-half, part_count-sum}

sum-≤ : (n : ℕ) (f g : ℕ → ℕ) → ((k : ℕ) → k < n → f k ≤ g k) → sum n f ≤ sum n g
unfolding sum
sum-≤ zero f g h = le_refl 0
sum-≤ (suc n) f g h = omega (arith, sum-≤ n f g (λ k b. h k (omega arith)), h n (omega arith))

levels-low : (depth p n m : ℕ) → m ≤ 1 → bernstein_levels depth p n m ≡ 0
unfolding bernstein_levels
levels-low zero p n m h = refl
levels-low (suc depth) p n m h = rw (le-leb m 1 h)

-- the weights of the parts, with a bound on the depth below them
abbrev levels-part : ℕ → ℕ → ℕ → ℕ → ℕ → ℕ
levels-part depth p n m j = bernstein_levels depth p (ceil_div n p) (part_count p j m)

levels-high : (depth p n m : ℕ) → 1 < m
    → bernstein_levels (suc depth) p n m ≡ (min p m - 1) * n + sum (min p m) (levels-part depth p n m)
unfolding bernstein_levels
levels-high depth p n m h = rw (lt-leb m 1 h)

pub weight-low : (p n m : ℕ) → m ≤ 1 → bernstein_weight p n m ≡ 0
unfolding bernstein_weight
weight-low p n m h = levels-low m p n m h

abbrev pub weight_of_part : ℕ → ℕ → ℕ → ℕ → ℕ
weight_of_part p n m j = bernstein_weight p (ceil_div n p) (part_count p j m)

module _ {p : ℕ} (above : 1 < p) where
  -- the bound on the depth does not matter once it is large enough
  levels_depth : (d e n m : ℕ) → m ≤ d → m ≤ e → bernstein_levels d p n m ≡ bernstein_levels e p n m
  levels_depth zero zero n m b c = refl
  levels_depth zero (suc e) n m b c = rw (levels-low 0 p n m (omega arith), levels-low (suc e) p n m (omega arith))
  levels_depth (suc d) zero n m b c = rw (levels-low 0 p n m (omega arith), levels-low (suc d) p n m (omega arith))
  levels_depth (suc d) (suc e) n m b c = go (dec_le m 1) (λ j. levels_depth d e (ceil_div n p) (part_count p j m))
    where
      go : Dec (m ≤ 1) → ((j : ℕ) → part_count p j m ≤ d → part_count p j m ≤ e → levels-part d p n m j ≡ levels-part e p n m j)
          → bernstein_levels (suc d) p n m ≡ bernstein_levels (suc e) p n m
      go (yes low) same = rw (levels-low (suc d) p n m low, levels-low (suc e) p n m low)
      go (no high) same =
          rw (levels-high d p n m (omega arith), levels-high e p n m (omega arith))
          (ap (λ s. (min p m - 1) * n + s)
          (sum_cong (min p m) (levels-part d p n m) (levels-part e p n m)
          (λ j u. same j (omega (arith, part_count-half above m j)) (omega (arith, part_count-half above m j)))))

  levels-weight : (depth n m : ℕ) → m ≤ depth → bernstein_levels depth p n m ≡ bernstein_weight p n m
  unfolding bernstein_weight
  levels-weight depth n m h = levels_depth depth m n m h (le_refl m)

  pub weight-parts : (n m : ℕ) → 1 < m → bernstein_weight p n m ≡ (min p m - 1) * n + sum (min p m) (weight_of_part p n m)
  weight-parts n m h =
      sym (levels-weight (suc (m - 1)) n m (omega arith))
      ∙ levels-high (m - 1) p n m h
      ∙ ap (λ s. (min p m - 1) * n + s)
      (sum_cong (min p m) (levels-part (m - 1) p n m) (weight_of_part p n m)
      (λ j u. levels-weight (m - 1) (ceil_div n p) (part_count p j m) (omega (arith, part_count-half above m j))))

  levels_bound : (depth n m : ℕ) → bernstein_levels depth p n m ≤ depth * n * m
  unfolding bernstein_levels
  levels_bound zero n m = omega arith
  levels_bound (suc depth) n m = go (dec_le m 1) (λ j. levels_bound depth (ceil_div n p) (part_count p j m))
    where
      go : Dec (m ≤ 1) → ((j : ℕ) → levels-part depth p n m j ≤ depth * ceil_div n p * part_count p j m)
          → bernstein_levels (suc depth) p n m ≤ suc depth * n * m
      go (yes low) each = rw (levels-low (suc depth) p n m low) (omega arith)
      go (no high) each =
          let order : ceil_div n p ≤ n = omega (arith, ceil_div-half above n) in
          let parts : sum (min p m) (levels-part depth p n m) ≤ sum (min p m) (λ j. depth * n * part_count p j m) =
          sum-≤ (min p m) (levels-part depth p n m) (λ j. depth * n * part_count p j m)
          (λ j u. le_trans (each j) (mul-le-mul_right (part_count p j m) (mul-le-mul_left depth order))) in
          let all : sum (min p m) (λ j. depth * n * part_count p j m) ≡ depth * n * m =
          sum-naturals (min p m) _ ∙ sym (⊗-sum naturals (min p m) (depth * n) (λ j. part_count p j m))
          ∙ rw (← sum-naturals (min p m) (λ j. part_count p j m), part_count-sum above m) in
          rw (levels-high depth p n m (omega arith), suc-mul, add-mul)
          (omega (arith, mul-le-mul_right {m = min p m - 1} {n = m} n (omega (arith, min-le_right p m)), mul_comm m n))

  pub weight-small : (n m : ℕ) → n ≤ limit → m ≤ limit → bernstein_weight p n m < 2 ^ 63
  unfolding bernstein_weight
  weight-small n m bn bm =
      let h : m * n * m ≤ limit * limit * limit = mul-le-mul (mul-le-mul bm bn) bm in
      omega (arith, levels_bound m n m)
