-- Results: blocks of a product, the remainders of the sums, written one part after the other.
--
--   Tiled Target              room for the sums of a result, and for the results
--   window_at product_blocks    place low + t of block j of the product modulo p, and blocks of the product
--   tile_done                 the remainders of the sums are a part of a result
--   tile_rooms result-rooms   room for the sums of a part of a result, and of a result
--   tile_first tile_next tile_last   nothing of a result is written, one more part, and all of it
--   results-first results_next   no result, and one more
-- Assumes nothing.
use Rattle.std.specs.Prelude.{ℕ, ◌+◌, ◌-◌, ◌*◌, ◌<◌, ◌≤◌, ◌^◌, List, ◌++◌, ◌≡◌, refl, length, take, drop}
use Rattle.std.proofs.Common.{add_assoc, le_refl, zero-add, add-one, arith, sym, ap, ◌∙◌}
use Rattle.std.proofs.lemmas.List.Edits.{sets}
use Rattle.std.proofs.Math.Seq.{length-sets}
use Rattle.algebra.specs.Lists.{length-tabulate, tabulate_cong}
use Rattle.algebra.specs.Rows.{length-plane}
use Rattle.buffer.specs.Segments.{segment}
use Rattle.buffer.specs.Written.{length_part, sets-append, sets-part, sets-whole}
use Rattle.definition.specs.KinoshitaLi.{cut_product2_at, plane}
use Rattle.definition.specs.Lists.{tabulate}
use Rattle.planes.specs.Rows.{plane-0, plane-fits, plane-suc, tabulate-+}
use Rattle.rows.specs.Sums.{remainder_list}
use Rattle.summed_product.specs.Sums.{Sums, sums-remainders}
use Rattle.blocks.specs.Blocks.{Rooms, result_at}
use Rattle.blocks.specs.declared.Blocks.{Blocks}

pub record Tiled (j low n : ℕ) (sums high : List ℕ) : Type 0 where
  pub sums-room : 128 ≤ length sums
  pub high-room : 128 ≤ length high
  pub places : low + n < 2 ^ 32
  pub block : j < 2 ^ 32

pub record Target (first low : ℕ) (t : Blocks) (z : List ℕ) : Type 0 where
  pub room : t.count * t.length ≤ length z
  pub places : low + t.length < 2 ^ 32
  pub blocks : first + t.count < 2 ^ 32

abbrev pub window_at : ℕ → (ℕ → ℕ → ℕ) → (ℕ → ℕ → ℕ) → ℕ → ℕ → ℕ → ℕ
window_at p f g j low t = cut_product2_at p f g j (low + t)

abbrev pub product_blocks : ℕ → (ℕ → ℕ → ℕ) → (ℕ → ℕ → ℕ) → ℕ → ℕ → Blocks → List ℕ
product_blocks p f g first low t = plane t.length t.count (λ k. window_at p f g (first + k) low)

-- the remainders of the sums are the result modulo p
pub tile_done : (p : ℕ) (f g : ℕ → ℕ → ℕ) (j low : ℕ) (z : List ℕ) {n : ℕ} {s h z' : List ℕ} → Sums n (2 ^ 14 - 1) s h (result_at f g j low) → n ≡ length z
    → z' ≡ sets z 0 (remainder_list p n s h) → z' ≡ tabulate (length z) (window_at p f g j low)
unfolding cut_product2_at
tile_done p f g j low z sums size e =
    e ∙ ap (sets z 0) (sums-remainders sums (le_refl _) p ∙ ap (λ k. tabulate k (window_at p f g j low)) size)
    ∙ sets-whole z (tabulate (length z) (window_at p f g j low)) (length-tabulate (length z) _)

pub tile_rooms : {j low n : ℕ} {sums high s h : List ℕ} → Tiled j low n sums high → length s ≡ length sums → length h ≡ length high
    → (z : List ℕ) (k end : ℕ) → length z ≡ n → k ≤ end → end ≤ n → end ≤ k + 128 → Rooms j (low + k) (length (segment z k (end - k))) s h
tile_rooms {n = n} tiled e f z k end size a b c =
    rw (length_part z k (end - k) (omega arith)) record {
      sums-room = rw e (omega (arith, tiled.sums-room));
      high-room = rw f (omega (arith, tiled.high-room));
      places = omega (arith, tiled.places);
      block = tiled.block;
    }

pub tile_first : (z : List ℕ) (f : ℕ → ℕ) → z ≡ sets z 0 (tabulate 0 f)
unfolding tabulate
tile_first z f = refl

-- more is written behind what was
appended : (z z₀ us vs : List ℕ) (k n : ℕ) → z ≡ sets z₀ 0 us → length us ≡ k → length vs ≡ n → k + n ≤ length z₀
    → take k z ++ (vs ++ drop n (drop k z)) ≡ sets z₀ 0 (us ++ vs)
appended z z₀ us vs k n e size more fits =
    sets-part z k n vs more (rw (e, length-sets) fits)
    ∙ rw (e, ← size) (sym (rw zero-add at (sets-append z₀ 0 us vs)))

module _ (p : ℕ) (f g : ℕ → ℕ → ℕ) (j low : ℕ) (z z₀ : List ℕ) where
  pub tile_next : {v : List ℕ} (k end : ℕ) → z ≡ sets z₀ 0 (tabulate k (window_at p f g j low)) → k ≤ end → end ≤ length z₀
      → v ≡ tabulate (length (segment z k (end - k))) (window_at p f g j (low + k))
      → take k z ++ (v ++ drop (end - k) (drop k z)) ≡ sets z₀ 0 (tabulate end (window_at p f g j low))
  tile_next {v} k end e a b written =
      appended z z₀ (tabulate k (window_at p f g j low)) v k (end - k) e (length-tabulate k (window_at p f g j low)) (rw part (length-tabulate (end - k) (λ t. window_at p f g j low (k + t)))) (omega arith)
      ∙ ap (sets z₀ 0) joined
    where
      size : length z ≡ length z₀
      size = rw e (length-sets z₀ 0 (tabulate k (window_at p f g j low)))

      part : v ≡ tabulate (end - k) (λ t. window_at p f g j low (k + t))
      part =
          written
          ∙ ap (λ n. tabulate n (window_at p f g j (low + k))) (length_part z k (end - k) (omega (arith, size)))
          ∙ tabulate_cong (end - k) (window_at p f g j (low + k)) (λ t. window_at p f g j low (k + t)) (λ t h. rw add_assoc)

      joined : tabulate k (window_at p f g j low) ++ v ≡ tabulate end (window_at p f g j low)
      joined =
          let whole : k + (end - k) ≡ end = omega arith in
          rw part (sym (rw whole at (tabulate-+ k (end - k) (window_at p f g j low))))

  pub tile_last : (k : ℕ) → z ≡ sets z₀ 0 (tabulate k (window_at p f g j low)) → k ≡ length z₀ → z ≡ tabulate (length z₀) (window_at p f g j low)
  tile_last k e all =
      e ∙ ap (λ n. sets z₀ 0 (tabulate n (window_at p f g j low))) all ∙ sets-whole z₀ (tabulate (length z₀) _) (length-tabulate (length z₀) _)

pub results-first : (z : List ℕ) (n : ℕ) (a : ℕ → ℕ → ℕ) → z ≡ sets z 0 (plane n 0 a)
results-first z n a = sym (rw (plane-0 n a))

module _ {first low : ℕ} {t : Blocks} {z₀ : List ℕ} (target : Target first low t z₀) (k : ℕ) (below : k < t.count) where
  pub result_fits : k * t.length + t.length ≤ length z₀
  result_fits = rw zero-add at (plane-fits {N = length z₀} 0 t.length t.count k (rw zero-add target.room) below)

  module _ (z : List ℕ) (a : ℕ → ℕ → ℕ) (e : z ≡ sets z₀ 0 (plane t.length k a)) where
    size : length z ≡ length z₀
    size = rw e (length-sets z₀ 0 (plane t.length k a))

    pub result-size : length (segment z (k * t.length) (k * t.length + t.length - k * t.length)) ≡ t.length
    result-size =
        length_part z (k * t.length) (k * t.length + t.length - k * t.length) (omega (arith, size, result_fits))
        ∙ omega arith

    pub result-rooms : {s h : List ℕ} → 128 ≤ length s → 128 ≤ length h
        → Tiled (first + k) low (length (segment z (k * t.length) (k * t.length + t.length - k * t.length))) s h
    result-rooms b c = rw result-size record {
      sums-room = b;
      high-room = c;
      places = target.places;
      block = omega (arith, target.blocks);
    }

    pub results_next : {v : List ℕ} → v ≡ tabulate (length (segment z (k * t.length) (k * t.length + t.length - k * t.length))) (a k)
        → take (k * t.length) z ++ (v ++ drop (k * t.length + t.length - k * t.length) (drop (k * t.length) z))
        ≡ sets z₀ 0 (plane t.length (k + 1) a)
    results_next {v} written =
        let n : k * t.length + t.length - k * t.length ≡ t.length = omega arith in
        let row : v ≡ tabulate t.length (a k) = written ∙ ap (λ s. tabulate s (a k)) result-size in
        rw n
        (appended z z₀ (plane t.length k a) v (k * t.length) t.length e (length-plane t.length k a) (rw row (length-tabulate t.length (a k))) result_fits
        ∙ rw (add-one, plane-suc t.length k a, row))
