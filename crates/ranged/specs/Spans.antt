-- Spans: the parts of the outer list that are composed and joined. b is the block length.
--
--   span b level j f     the part of f that begins with block j, at most 2^level blocks long
--   span-block           at level 0 it is block j
--   span-split           one level up it is two spans, one after the other
--   span_alone           or the first of them alone, where no block begins after it
--   block-part           block j, as the part of f up to the place where the next block begins
--   length-block length-span   they are not longer than f
--   span-whole           from block 0 on, at the level of the number of halvings of the number of blocks, it is the whole list
--   span-composed        where a block begins after the first span, the two compositions join to that of the span one level up
--   span-weight          and their weights with that of the product that joins them are the weight of that span
-- Assumes nothing.
use Prim.Native.Nat.{ℕ, suc, ◌+◌, ◌-◌, ◌*◌, ◌^◌, ◌<◌, ◌≤◌, min}
use Rattle.std.proofs.Math.Decide.{dec_lt}
use Rattle.std.proofs.Common.{add-mul, le_trans, mul_comm, mul-le-mul_left, mul-one, one-mul, append-nil, sym, ◌∙◌, length-append, length-take, pow_pos, take_all}
use Rattle.std.proofs.Math.Nat.{mul-add, mul-pos, mul-zero, pow-zero}
use native.Mathlib.Omega.{arith}
use Rattle.std.specs.Prelude.{List, ◌++◌, ◌≡◌, take, drop}
use Rattle.std.proofs.Math.ListN.{length, length-drop, drop_of_length-le}
use Rattle.std.proofs.Math.Seq.{drop-drop, length-take-le, take-add, take-nil}
use Rattle.algebra.specs.Composition.{composed-++}
use Rattle.algebra.specs.Halvings.{halvings-covers}
use Rattle.algebra.specs.Lists.{ceil_div-covers}
use Rattle.definition.specs.Lists.{ceil_div}
use Rattle.definition.specs.Ranged.{block, cut_power, joined}
use Rattle.definition.specs.Substitution.{composed}
use Rattle.definition.specs.Weight.{halvings, horner_weight}
use Rattle.powers.specs.Powers.{doubled}

unfoldable pub span : ℕ → ℕ → ℕ → List ℕ → List ℕ
span b level j f = take (b * 2 ^ level) (drop (b * j) f)

horner_weight-+ : (n i k : ℕ) → 0 < i → 0 < k → horner_weight n i + horner_weight n k + n ≡ horner_weight n (i + k)
unfolding horner_weight
horner_weight-+ n i k h l =
    let e : i + k - 1 ≡ i - 1 + (k - 1) + 1 = omega arith in
    rw (e, add-mul, add-mul, one-mul)

module _ (b : ℕ) (f : List ℕ) where
  pub span-block : (j : ℕ) → span b 0 j f ≡ block b j f
  unfolding span block
  span-block j = rw (pow-zero, mul-one)

  -- the part of f that is handed to Horner, up to the place where the next block begins
  pub block-part : (j : ℕ) → b * j ≤ length f
      → take (min (b * (j + 1)) (length f) - min (b * j) (length f)) (drop (min (b * j) (length f)) f) ≡ block b j f
  unfolding block
  block-part j begins =
      let start : min (b * j) (length f) ≡ b * j = omega arith in
      rw (start, mul-add, mul-one) (go (dec_lt (length f) (b * j + b)))
    where
      size : length (drop (b * j) f) ≡ length f - b * j
      size = length-drop (b * j) f

      go : Dec (length f < b * j + b) → take (min (b * j + b) (length f) - b * j) (drop (b * j) f) ≡ take b (drop (b * j) f)
      go (yes short) =
          take_all (min (b * j + b) (length f) - b * j) (drop (b * j) f) (omega (arith, size))
          ∙ sym (take_all b (drop (b * j) f) (omega (arith, size)))
      go (no full) =
          let whole : min (b * j + b) (length f) - b * j ≡ b = omega arith in
          rw whole

  pub length-span : (level j : ℕ) → length (span b level j f) ≤ length f
  unfolding span
  length-span level j = rw (length-take, length-drop) (omega arith)

  pub length-block : (j : ℕ) → length (block b j f) ≤ length f
  unfolding block
  length-block j = rw (length-take, length-drop) (omega arith)

  pub span-whole : 0 < b → span b (halvings (ceil_div (length f) b)) 0 f ≡ f
  unfolding span
  span-whole positive =
      rw mul-zero
      (take_all (b * 2 ^ halvings (ceil_div (length f) b)) f
      (le_trans (ceil_div-covers positive (length f))
      (rw (mul_comm (ceil_div (length f) b) b) (mul-le-mul_left b (halvings-covers (ceil_div (length f) b))))))

  module _ (level j : ℕ) where
    pub span-split : span b (suc level) j f ≡ span b level j f ++ span b level (j + 2 ^ level) f
    unfolding span
    span-split = rw (doubled b level, take-add, drop-drop, mul-add)

    pub span_alone : length f ≤ b * (j + 2 ^ level) → span b (suc level) j f ≡ span b level j f
    unfolding span
    span_alone beyond = rw (span-split, drop_of_length-le f beyond, take-nil, append-nil)

    module _ (more : b * (j + 2 ^ level) < length f) where
      span_full : length (span b level j f) ≡ b * 2 ^ level
      unfolding span
      span_full = length-take-le (b * 2 ^ level) (drop (b * j) f) (rw length-drop (omega (arith, mul-add b j (2 ^ level))))

      pub span-composed : {p : ℕ} → 0 < p → (n : ℕ) (g : List ℕ)
          → joined p n (composed p n (span b level j f) g) (composed p n (span b level (j + 2 ^ level) f) g) (cut_power p n g (b * 2 ^ level))
          ≡ composed p n (span b (suc level) j f) g
      span-composed l n g = rw (← span_full, span-split) (composed-++ l n (span b level j f) (span b level (j + 2 ^ level) f) g)

      span-positive : 0 < b → (k : ℕ) → b * k < length f → 0 < length (span b level k f)
      unfolding span
      span-positive positive k below =
          let size : 0 < b * 2 ^ level = mul-pos positive (pow_pos level) in
          rw (length-take, length-drop) (omega arith)

      pub span-weight : 0 < b → (n : ℕ)
          → horner_weight n (length (span b level j f)) + horner_weight n (length (span b level (j + 2 ^ level) f)) + n
          ≡ horner_weight n (length (span b (suc level) j f))
      span-weight positive n =
          rw (span-split, length-append)
          (horner_weight-+ n (length (span b level j f)) (length (span b level (j + 2 ^ level) f))
          (span-positive positive j (omega (arith, mul-add b j (2 ^ level)))) (span-positive positive (j + 2 ^ level) more))
