-- The three products of the halves, woven, are the product.
--
--   thirds                 the three products give what `weave` requires
--   woven-product          and the three, woven, are the product
-- Assumes nothing.
use Rattle.std.specs.Prelude.{ℕ, ◌+◌, ◌*◌, ◌/◌, ◌<◌, ◌≤◌, Bool, List, ◌≡◌, length}
use Rattle.std.proofs.Common.{arith, ap, ◌∙◌}
use Rattle.std.proofs.Math.Nat.{mod-lt}
use Rattle.std.proofs.Math.Path.{sym}
use Rattle.std.proofs.lemmas.List.Edits.{sets}
use Rattle.std.proofs.Math.Seq.{length-sets}
use Rattle.definition.specs.KinoshitaLi.{cut_product2_at, even_part, plane, window}
use Rattle.grids.specs.Parts.{grid_at, packed}
use Rattle.grids.specs.declared.Grid.{Grid}
use Rattle.double_rows.specs.Places.{packed_at}
use Rattle.planes.specs.Parity.{odd_part}
use Rattle.summed_product.specs.Zeros.{Zeros}
use Rattle.double_parity.specs.Halves.{even-half, even_half, folded, folded-half, folded_part, lower_half, odd-half, odd_half, upper, upper_half}
use Rattle.double_parity.specs.Packed.{packed_agree, packed-at, packed-below}
use Rattle.double_karatsuba.specs.Rule.{karatsuba}
use Rattle.double_parity.specs.Weave.{Third, Thirds, woven_agree, woven_plane}
use Rattle.double_parity.specs.declared.Results.{Results}
use Rattle.double_karatsuba.specs.Product.{Long, Multiplied, Multiplying, fold-first, fold-second, lower-results, product_of, upper-results}

module _ {p : ℕ} {square : Bool} {g : Grid} {w : List ℕ} {h : Grid} {v : List ℕ} {t : Results} {z : List ℕ}
    (m : Multiplying p square g w h v t z) (long : Long g t) where
  module _ {s : List ℕ} (blank : Zeros 4896 s) where
    module _ {s₁ s₂ : List ℕ} (first : s₁ ≡ sets s 0 (plane (upper g.length) g.count (folded p (grid_at g w))))
        (second : s₂ ≡ sets s 0 (plane (upper h.length) h.count (folded p (grid_at h v)))) where
      -- the three products have been written to lists of zeros
      module _ {n : List ℕ} (zeros : Zeros 4352 n) {even odd sums : List ℕ}
          (evens : Multiplied p (even_half g) w (even_half h) v (upper_half t) n even) (odds : Multiplied p (odd_half g) w (odd_half h) v (lower_half t) n odd)
          (folds : Multiplied p (folded_part g) s₁ (folded_part h) s₂ (lower_half t) n sums) where
        abbrev A : ℕ → ℕ → ℕ
        A = grid_at g w

        abbrev B : ℕ → ℕ → ℕ
        B = grid_at h v

        upper-room : t.rows * upper t.places ≤ length n
        upper-room = rw zeros.size (upper-results m long)

        lower-room : t.rows * (t.places / 2) ≤ length n
        lower-room = rw zeros.size (lower-results m long)

        residue : (a b : ℕ → ℕ → ℕ) (j i : ℕ) → window t.low (cut_product2_at p a b) j i < p
        unfolding cut_product2_at window
        residue a b j i = mod-lt _ m.modulus

        third : (k : ℕ) (a b : ℕ → ℕ → ℕ) {l : List ℕ} → t.rows * k ≤ length n
            → l ≡ sets n 0 (packed t.turned k t.rows (window t.low (cut_product2_at p a b))) → Third p k t.rows l
        third k a b room e = record {
          room = rw (e, length-sets) room;
          below = λ i. rw e (packed-below k t.rows _ n room p (residue a b) (λ j. rw (zeros.blank j) m.modulus) t.turned i);
        }

        pub thirds : Thirds p t even odd sums
        thirds = record {
          modulus = m.modulus;
          few = omega (arith, m.results);
          evens = third _ _ _ upper-room evens;
          odds = third _ _ _ lower-room odds;
          folds = third _ _ _ lower-room folds;
        }

        -- places of the three
        module _ (j : ℕ) (b : j < t.rows) (k : ℕ) where
          even-at : k < upper t.places → packed_at t.turned (upper t.places) t.rows even j k ≡ cut_product2_at p (even_part A) (even_part B) (t.low + j) k
          unfolding window
          even-at c =
              rw evens (packed-at (upper t.places) t.rows (product_of p (even_half g) w (even_half h) v t.low) n upper-room t.turned j k b c
              ∙ rw (even-half g w, even-half h v))

          odd-at : k < t.places / 2 → packed_at t.turned (t.places / 2) t.rows odd j k ≡ cut_product2_at p (odd_part A) (odd_part B) (t.low + j) k
          unfolding window
          odd-at c =
              rw odds (packed-at (t.places / 2) t.rows (product_of p (odd_half g) w (odd_half h) v t.low) n lower-room t.turned j k b c
              ∙ rw (odd-half g w, odd-half h v))

          fold_at : k < t.places / 2 → packed_at t.turned (t.places / 2) t.rows sums j k ≡ cut_product2_at p (folded p A) (folded p B) (t.low + j) k
          unfolding window
          fold_at c =
              rw folds (packed-at (t.places / 2) t.rows (product_of p (folded_part g) s₁ (folded_part h) s₂ t.low) n lower-room t.turned j k b c
              ∙ rw (folded-half g w m.modulus s (fold-first m long blank).3 first, folded-half h v m.modulus s (fold-second m long blank).3 second))

        place : (j : ℕ) → j < t.rows → (i : ℕ) → i < t.places → woven_plane p t even odd sums j i ≡ product_of p g w h v t.low j i
        unfolding woven_plane window
        place j b i c =
            woven_agree p t.places (even-at j b) (odd-at j b) (fold_at j b) i c ∙ sym (karatsuba m.modulus A B (t.low + j) i)

        pub woven-product : {z' : List ℕ} → z' ≡ sets z 0 (packed t.turned t.places t.rows (woven_plane p t even odd sums))
            → Multiplied p g w h v t z z'
        woven-product e = e ∙ ap (sets z 0) (packed_agree t.turned t.places t.rows place)
