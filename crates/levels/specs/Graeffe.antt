-- The two halves of a level: the denominator of the next level, and the result from that of the next level.
--
--   Parts              what `graeffe` and `expand` require: the parts of a level stand in w one after the other
--   parts-length       they do so in every list of that length
--   denominator_rows    the rows of Q
--   Graeffe            the contract of `graeffe`
--   opposite-room      what its product requires
--   graeffe-written    what it writes meets it
--   Expanded           the contract of `expand`
--   spread-room        what its product requires
--   expanded_written   what it writes meets it
-- Assumes nothing.
use Rattle.std.specs.Prelude.{ℕ, ◌+◌, ◌-◌, ◌*◌, ◌^◌, ◌<◌, ◌≤◌, List, ◌≡◌, refl, length}
use Rattle.std.proofs.Common.{le_of_eq, arith, inl, ◌∙◌}
use Rattle.std.proofs.lemmas.List.Edits.{sets}
use Rattle.std.proofs.Math.Seq.{length-sets}
use Rattle.algebra.specs.Rows.{length-plane}
use Rattle.definition.specs.KinoshitaLi.{cut_product2_at, even_part, opposite, plane, squared, window}
use Rattle.definition.specs.Lists.{ceil_div}
use Rattle.opposite_product.specs.Opposite.{OppositeRoom}
use Rattle.spread_product.specs.Spread.{SpreadRoom}
use Rattle.planes.specs.Parity.{odd_part-squared}
use Rattle.product.specs.Double.{product_of}
use Rattle.product.specs.Planes.{held, held_kept}
use Rattle.buffer.specs.Segments.{segment, length-segment}
use Rattle.product.specs.declared.Rows.{Rows}
use Rattle.buffer.specs.Within.{Within, within-sets, within_trans, within_wider, segment-sets, segment-within}
use Rattle.bivariate.specs.Exact.{even-plane, opposite_exact, squared_exact}
use Rattle.levels.specs.declared.Layout.{Layout}

pub record Parts (p r : ℕ) (s : Layout) (w : List ℕ) : Type 0 where
  pub modulus : 0 < p
  pub positive : 0 < r
  pub order : r ≤ 2 ^ 30
  pub half : s.half ≡ ceil_div r 2
  pub some : 0 < s.opposite.count
  pub size : s.opposite.count * ceil_div r 2 ≤ 4096
  pub doubled : s.product.count ≤ 2 * s.opposite.count
  pub results : s.result.count ≤ s.opposite.count
  pub some_below : 0 < s.below.count
  pub doubled-below : s.below.count ≤ 2 * s.opposite.count
  pub window : s.window ≤ 2 ^ 30
  pub few : s.below.count * r ≤ s.product.count * r
  pub denominator : s.opposite.count * r ≤ s.result.at
  pub result : s.result.at + s.result.count * r ≤ s.opposite.at
  pub opposite : s.opposite.at + s.opposite.count * r ≤ s.product.at
  pub product : s.product.at + s.product.count * r ≤ s.rest
  pub next : s.rest + s.product.count * s.half ≤ s.below.at
  pub below : s.below.at + s.below.count * s.half ≤ length w

pub parts-length : {p r : ℕ} {s : Layout} {v w : List ℕ} → length v ≡ length w → Parts p r s w → Parts p r s v
parts-length e o = record {
  modulus = o.modulus;
  positive = o.positive;
  order = o.order;
  half = o.half;
  some = o.some;
  size = o.size;
  doubled = o.doubled;
  results = o.results;
  some_below = o.some_below;
  doubled-below = o.doubled-below;
  window = o.window;
  few = o.few;
  denominator = o.denominator;
  result = o.result;
  opposite = o.opposite;
  product = o.product;
  next = o.next;
  below = rw e o.below;
}

-- V: the even part of Q(x, y) Q(-x, y)
abbrev even_product : ℕ → (ℕ → ℕ → ℕ) → ℕ → ℕ → ℕ
even_product p a = even_part (cut_product2_at p a (opposite p a))

abbrev pub denominator_rows : Layout → Rows
denominator_rows s = record { at = 0; count = s.opposite.count }

pub record Graeffe (p r : ℕ) (s : Layout) (before after : List ℕ) (result : ℕ) : Type 0 where
  pub opposed : held r after s.opposite ≡ opposite p (held r before (denominator_rows s))
  pub even : segment after s.rest (s.product.count * s.half)
      ≡ plane s.half s.product.count (even_product p (held r before (denominator_rows s)))
  pub within : Within s.opposite.at (length before - s.opposite.at) before after
  pub sum : result ≡ r * s.product.count

pub record Expanded (p r : ℕ) (s : Layout) (before after : List ℕ) (result : ℕ) : Type 0 where
  pub rows : segment after s.result.at (s.result.count * r)
      ≡ plane r s.result.count
      (window s.window (cut_product2_at p (squared (held s.half before s.below)) (held r before s.opposite)))
  pub within : Within s.result.at (length before - s.result.at) before after
  pub sum : result ≡ r * s.result.count

module _ {p r : ℕ} {s : Layout} {w : List ℕ} (parts : Parts p r s w) where
  abbrev a : Rows
  a = denominator_rows s

  abbrev b : Rows
  b = s.opposite

  abbrev x : Rows
  x = s.product

  abbrev Q : ℕ → ℕ → ℕ
  Q = held r w a

  abbrev O : List ℕ
  O = plane r a.count (opposite p Q)

  abbrev w₁ : List ℕ
  w₁ = sets w b.at O

  abbrev X : List ℕ
  X = plane r x.count (cut_product2_at p (held r w₁ a) (opposite p (held r w₁ a)))

  abbrev w₂ : List ℕ
  w₂ = sets w₁ x.at X

  abbrev E : List ℕ
  E = plane s.half x.count (even_part (held r w₂ x))

  abbrev w₃ : List ℕ
  w₃ = sets w₂ s.rest E

  size_O : length O ≡ b.count * r
  size_O = length-plane r a.count (opposite p Q)

  size_X : length X ≡ x.count * r
  size_X = length-plane r x.count (cut_product2_at p (held r w₁ a) (opposite p (held r w₁ a)))

  size_E : length E ≡ x.count * s.half
  size_E = length-plane s.half x.count (even_part (held r w₂ x))

  held-a : held r w₁ a ≡ Q
  held-a =
      held_kept r w a (record { source = omega (arith, parts); target = omega (arith, parts); apart = inl (omega (arith, parts)) }) O
      (le_of_eq size_O)

  held-b : held r w₁ b ≡ opposite p Q
  held-b =
      rw (segment-sets w b.at O (b.count * r) size_O (omega (arith, parts)))
      (opposite_exact p r a.count (segment w a.at (a.count * r)) (length-segment w a.at (a.count * r)))

  even : E ≡ plane s.half x.count (even_product p Q)
  even =
      rw (
        segment-sets w₁ x.at X (x.count * r) size_X (rw length-sets (omega (arith, parts))),
        held-a,
        parts.half,
      )
      (even-plane r x.count (cut_product2_at p Q (opposite p Q)))

  later : Within x.at (length w - x.at) w₁ w₃
  later =
      within_trans (within-sets w₁ x.at X (omega arith) (omega (arith, size_X, parts)))
      (within-sets w₂ s.rest E (omega (arith, parts)) (omega (arith, size_E, parts)))

  -- what the product requires, in every list of that length
  pub opposite-room : {v : List ℕ} → length v ≡ length w → length w < 2 ^ 64 → OppositeRoom p r 0 a.count x.at x.count v
  opposite-room {v} e small = record {
    reading = record {
      modulus = parts.modulus;
      positive = parts.positive;
      some = parts.some;
      source = rw e (omega (arith, parts));
      fits = rw e small;
    };
    target = rw e (omega (arith, parts));
    order = parts.order;
    doubled = parts.doubled;
  }

  pub graeffe-written : Graeffe p r s w w₃ (r * x.count)
  graeffe-written = record {
    opposed = rw (segment-within later b.at (b.count * r) (inl parts.opposite)) held-b;
    even = segment-sets w₂ s.rest E (x.count * s.half) size_E (rw (length-sets, length-sets) (omega (arith, parts))) ∙ even;
    within =
        within_trans (within-sets w b.at O (omega arith) (omega (arith, size_O, parts)))
        (within_wider (omega (arith, parts)) (omega (arith, parts)) later);
    sum = refl;
  }

  abbrev u : Rows
  u = s.below

  abbrev t : Rows
  t = s.result

  -- U(x^2, y)
  abbrev y : Rows
  y = record { at = x.at; count = u.count }

  abbrev S : List ℕ
  S = plane r u.count (squared (held s.half w u))

  abbrev w₄ : List ℕ
  w₄ = sets w x.at S

  abbrev T : List ℕ
  T = plane r t.count (window s.window (product_of p r y b w₄))

  abbrev w₅ : List ℕ
  w₅ = sets w₄ t.at T

  size_S : length S ≡ u.count * r
  size_S = length-plane r u.count (squared (held s.half w u))

  size_T : length T ≡ t.count * r
  size_T = length-plane r t.count (window s.window (product_of p r y b w₄))

  held-y : held r w₄ y ≡ squared (held s.half w u)
  held-y =
      rw (segment-sets w x.at S (u.count * r) size_S (omega (arith, parts)), parts.half)
      (squared_exact r u.count (segment w u.at (u.count * ceil_div r 2)) (length-segment w u.at (u.count * ceil_div r 2)))

  held-factor : held r w₄ b ≡ held r w b
  held-factor =
      held_kept r w b (record { source = omega (arith, parts); target = omega (arith, parts); apart = inl parts.opposite }) S
      (le_of_eq size_S)

  pub spread-room : length w < 2 ^ 64 → SpreadRoom p r y.at y.count b.at b.count s.window t.at t.count w₄
  spread-room small = record {
    first = record {
      modulus = parts.modulus;
      positive = parts.positive;
      some = parts.some_below;
      source = rw length-sets (omega (arith, parts));
      fits = rw length-sets small;
    };
    second = record {
      modulus = parts.modulus;
      positive = parts.positive;
      some = parts.some;
      source = rw length-sets (omega (arith, parts));
      fits = rw length-sets small;
    };
    target = rw length-sets (omega (arith, parts));
    order = parts.order;
    few = parts.results;
    doubled = parts.doubled-below;
    window = parts.window;
    odd-zero = λ j i. rw held-y (odd_part-squared (held s.half w u) j i);
  }

  pub expanded_written : Expanded p r s w w₅ (r * t.count)
  expanded_written = record {
    rows =
        segment-sets w₄ t.at T (t.count * r) size_T (rw length-sets (omega (arith, parts))) ∙ rw (held-y, held-factor);
    within =
        within_trans (within-sets w x.at S (omega (arith, parts)) (omega (arith, size_S, parts)))
        (within-sets w₄ t.at T (omega arith) (omega (arith, size_T, parts)));
    sum = refl;
  }
