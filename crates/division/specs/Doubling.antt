-- The inverse of a series by doubling, on parts of one list. From place c on stand three parts of m places: C, the inverse U of 1 - C, and room.
--
--   standing l w t       the series of residues that stands in w from place t on
--   standing-segment     it agrees with the series of a segment
--   standing-kept        it is as it was after a change elsewhere
--   standing-written     it agrees with what was written there
--   standing-product     it agrees with the product that was written there
--   Inverting Doubling   what `inverse` and `double` require
--   Inverted             the contract of both: U is an inverse below k
--   inverted_none inverted_first inverted_next inverted_doubled   no place, the first place, one step after others, and what a step does
-- Assumes nothing.
use Prim.Native.Nat.{ℕ, ◌+◌, ◌-◌, ◌*◌, ◌%◌, ◌^◌, ◌<◌, ◌≤◌}
use Rattle.std.proofs.Math.Decide.{dec_lt}
use Rattle.std.proofs.Math.Nat.{add_assoc, mod-mod}
use Rattle.std.proofs.Common.{add-zero, arith, inl, sym, ◌∙◌, get_or-set_other, get_or-set_same}
use mathlib.Core.List.{List, [], ◌∷◌}
use Rattle.std.specs.Prelude.{◌⊎◌, ◌≡◌, length, replicate, set}
use Rattle.std.proofs.lemmas.List.{get_or-replicate, length-replicate}
use Rattle.std.proofs.Math.Seq.{sets}
use Rattle.algebra.specs.Agree.{Agree, agree_refl, agree_sym, agree_trans, agree_⊠}
use Rattle.algebra.specs.Bridge.{cut_product-listed, length-cut_product, residue-series, series-listed, series_of}
use Rattle.algebra.specs.Cut.{cut, cut_below, cut_beyond, window}
use Rattle.algebra.specs.Homomorphism.{coefficients-at}
use Rattle.algebra.specs.Residue.{Residue, reduction, residue, residue-0, residue-1, residue-equal, residues}
use Rattle.algebra.specs.Series.{Series}
use Rattle.buffer.specs.Segments.{segment, coefficient-segment}
use Rattle.definition.specs.Lists.{coefficient}
use Rattle.definition.specs.Substitution.{cut_product}
use Rattle.division.specs.Inverse.{Inverse, inverse_agree, inverse-doubled, inverse-first}
use Rattle.product.specs.Single.{Multiplied, multiplied-within}
use Rattle.buffer.specs.Within.{Within, segment-sets, segment-within, within_refl, within-sets, within_trans, within_wider}

module _ {p : ℕ} (l : 0 < p) where
  open residue-series l use {◌⊗◌ as ◌⊠◌}

  pub standing : List ℕ → ℕ → Series (Residue p)
  standing w t i = residue l (coefficient w (t + i))

  pub standing-segment : (w : List ℕ) (t n : ℕ) → Agree n (series_of l (segment w t n)) (standing w t)
  unfolding standing
  standing-segment w t n i b = rw (coefficients-at (reduction l), coefficient-segment w t n i b)

  pub standing-kept : {t n : ℕ} {v w : List ℕ} → Within t n v w → (a m : ℕ) → (a + m ≤ t) ⊎ (t + n ≤ a)
      → Agree m (standing w a) (standing v a)
  standing-kept {v = v} {w} within a m apart =
      agree_trans (agree_sym (standing-segment w a m)) (rw (segment-within within a m apart) (standing-segment v a m))

  pub standing-written : (w : List ℕ) (t : ℕ) (us : List ℕ) (n : ℕ) → length us ≡ n → t + n ≤ length w
      → Agree n (standing (sets w t us) t) (series_of l us)
  standing-written w t us n size fits =
      agree_trans (agree_sym (standing-segment (sets w t us) t n)) (rw (segment-sets w t us n size fits) (agree_refl _))

  pub standing-product : {n a b t s : ℕ} {v w : List ℕ} → Multiplied p n a b t v w s → t + n ≤ length v
      → Agree n (standing w t) (standing v a ⊠ standing v b)
  standing-product {n} {a} {b} {t} {v = v} done fits =
      rw done.written
      (agree_trans (standing-written v t (cut_product p n (segment v a n) (segment v b n)) n (length-cut_product p n _ _) fits)
      (rw (cut_product-listed l n (segment v a n) (segment v b n))
      (agree_trans (series-listed l n _) (agree_⊠ (residues l) (standing-segment v a n) (standing-segment v b n)))))

  standing-window : {n : ℕ} (w : List ℕ) (t k : ℕ) → Agree n (window k (standing w t)) (standing w (t + k))
  unfolding standing
  standing-window w t k i b = rw add_assoc

  -- zeros behind the first k places
  standing-cut : (w : List ℕ) (t k n : ℕ) → t + n ≤ length w
      → Agree n (standing (sets w (t + k) (replicate (n - k) 0)) t) (cut (residues l) k (standing w t))
  unfolding coefficient
  standing-cut w t k n fits i b = at (dec_lt i k)
    where
      after : List ℕ
      after = sets w (t + k) (replicate (n - k) 0)

      written : Within (t + k) (n - k) w after
      written = within-sets w (t + k) (replicate (n - k) 0) (omega arith) (rw length-replicate (omega arith))

      zero-at : (j : ℕ) → k + j < n → standing after t (k + j) ≡ (residues l).𝟘
      zero-at j h =
          agree_trans {n = n - k} (standing-window after t k)
          (standing-written w (t + k) (replicate (n - k) 0) (n - k) (length-replicate (n - k) 0) (omega arith)) j (omega arith)
          ∙ rw (coefficients-at (reduction l), get_or-replicate {A = ℕ} (n - k) j 0 0 (omega arith)) (residue-0 l)

      at : Dec (i < k) → standing after t i ≡ cut (residues l) k (standing w t) i
      at (yes h) = standing-kept written t k (inl (omega arith)) i h ∙ sym (cut_below (residues l) k (standing w t) i h)
      at (no h) =
          let e : k + (i - k) ≡ i = omega arith in
          rw e at (zero-at (i - k) (omega arith)) ∙ sym (cut_beyond (residues l) k (standing w t) i (omega arith))

abbrev InverseAt : ℕ → ℕ → ℕ → ℕ → List ℕ → Type 0
InverseAt p m c k w = (l : 0 < p) → Inverse (residues l) k (standing l w c) (standing l w (c + m))

pub record Inverting (p m c : ℕ) (w : List ℕ) : Type 0 where
  pub modulus : 0 < p
  pub order : m ≤ 2 ^ 30
  pub places : c + 3 * m ≤ length w
  pub no_constant : 0 < m → coefficient w c ≡ 0

pub record Doubling (p m c k : ℕ) (w : List ℕ) : Type 0 where
  pub modulus : 0 < p
  pub order : m ≤ 2 ^ 30
  pub places : c + 3 * m ≤ length w
  pub positive : 0 < k
  pub below : k < m
  pub inverse : InverseAt p m c k w

pub record Inverted (p m c k : ℕ) (before after : List ℕ) : Type 0 where
  pub inverse : InverseAt p m c k after
  pub within : Within (c + m) (m + m) before after

pub inverted_none : {p m c : ℕ} (w : List ℕ) → m ≡ 0 → Inverted p m c m w w
inverted_none {m = m} w none = record {
  inverse = λ l. record { agrees = λ k b. absurd (omega arith) };
  within = within_refl _ _ w;
}

pub inverted_first : {p m c : ℕ} {w : List ℕ} → Inverting p m c w → 0 < m → Inverted p m c 1 w (set w (c + m) (1 % p))
unfolding standing coefficient
inverted_first {p} {m} {c} {w} start some = record {
  inverse = λ l.
      inverse-first (residues l) _ _
      (rw (add-zero, get_or-set_other w (c + m) c (1 % p) 0 (λ e. omega arith), start.no_constant some) (residue-0 l))
      (rw (add-zero, get_or-set_same w (c + m) (1 % p) 0 (omega (arith, start.places)))
      ((residue-equal l (1 % p) 1).1 (mod-mod 1 p) ∙ residue-1 l));
  within = within-sets w (c + m) (1 % p ∷ []) (omega arith) (omega arith);
}

pub inverted_next : {p m c k n : ℕ} {u v w : List ℕ} → Inverted p m c k u v → Inverted p m c n v w → Inverted p m c n u w
inverted_next known further = record {
  inverse = further.inverse;
  within = within_trans known.within further.within;
}

module _ {p m c k n s₁ s₂ : ℕ} {w₀ w₁ w₂ w₃ : List ℕ} (start : Doubling p m c k w₀) (longer : k < n) (far : n ≤ k + k) (below : n ≤ m)
    (ended : w₁ ≡ sets w₀ (c + m + k) (replicate (n - k) 0)) (first : Multiplied p n (c + m) c (c + m + m) w₁ w₂ s₁)
    (second : Multiplied p (n - k) (c + m + m + k) (c + m) (c + m + k) w₂ w₃ s₂) where
  cleared : Within (c + m + k) (n - k) w₀ w₁
  cleared = rw ended (within-sets w₀ (c + m + k) (replicate (n - k) 0) (omega arith) (rw length-replicate (omega arith)))

  used : Within (c + m + m) n w₁ w₂
  used = multiplied-within first

  added : Within (c + m + k) (n - k) w₂ w₃
  added = multiplied-within second

  module _ (l : 0 < p) where
    kept : (t i : ℕ) → t + i ≤ c + m + k → Agree i (standing l w₂ t) (standing l w₀ t)
    kept t i h =
        agree_trans (standing-kept l used t i (inl (omega arith))) (standing-kept l cleared t i (inl (omega arith)))

    known : (t i : ℕ) → t + i ≤ c + m + k → Agree i (standing l w₃ t) (standing l w₀ t)
    known t i h = agree_trans (standing-kept l added t i (inl (omega arith))) (kept t i h)

    product : Agree n (standing l w₂ (c + m + m)) ((residue-series l).◌⊗◌ (cut (residues l) k (standing l w₀ (c + m))) (standing l w₀ c))
    product =
        agree_trans (standing-product l first (omega (arith, start.places, cleared.size)))
        (agree_⊠ (residues l) (rw ended (standing-cut l w₀ (c + m) k n (omega (arith, start.places))))
        (standing-kept l cleared c n (inl (omega arith))))

    -- what C U has from k on, times U
    behind : Agree (n - k) (window k (standing l w₃ (c + m)))
        ((residue-series l).◌⊗◌ (window k ((residue-series l).◌⊗◌ (cut (residues l) k (standing l w₀ (c + m))) (standing l w₀ c)))
        (standing l w₀ (c + m)))
    behind =
        agree_trans (standing-window l w₃ (c + m) k)
        (agree_trans (standing-product l second (omega (arith, start.places, cleared.size, used.size)))
        (agree_⊠ (residues l)
        (agree_trans (agree_sym (standing-window l w₂ (c + m + m) k)) (λ j b. product (k + j) (omega arith)))
        (kept (c + m) (n - k) (omega arith))))

    doubled : Inverse (residues l) n (standing l w₃ c) (standing l w₃ (c + m))
    doubled =
        inverse_agree (residues l) (known c n (omega arith)) (agree_refl _)
        (inverse-doubled (residues l) start.positive (start.inverse l) far (known (c + m) k (omega arith)) behind)

  pub inverted_doubled : Inverted p m c n w₀ w₃
  inverted_doubled = record {
    inverse = doubled;
    within =
        within_trans (within_wider (omega arith) (omega arith) cleared)
        (within_trans (within_wider (omega arith) (omega arith) used) (within_wider (omega arith) (omega arith) added));
  }
