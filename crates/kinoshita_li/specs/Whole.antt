-- Route 4 as a whole.
--
--   FractionLent      what `fraction` requires
--   Fraction          its contract
--   first_level       what the first level requires
--   first_rows        the rows of Q lie in the places lent
--   fraction-done     the first level leaves f(g)
--   none_done         the route for an empty outer list
--   places-inside rows_inside fraction-lent some-done   the route for any other
-- Assumes nothing.
use Prim.Native.Nat.{ℕ, ◌+◌, ◌-◌, ◌*◌, ◌<◌, ◌≤◌, min}
use Rattle.std.proofs.Common.{le_of_eq, le_refl, mul-le-mul_right, one-mul, add-one, arith, eq-eqb, ne_eqb, sym, ◌∙◌, length-append, length-drop, drop_at, length-take-le}
use Rattle.std.proofs.Math.Nat.{zero-add, zero-mod}
use mathlib.Core.List.{List, ◌++◌}
use Rattle.std.specs.Prelude.{◌≡◌, refl, take, drop}
use Rattle.std.proofs.Math.ListN.{length}
use Rattle.std.proofs.lemmas.List.Edits.{sets}
use Rattle.std.proofs.lemmas.List.{drop-append-le, take-append-le}
use Rattle.algebra.specs.Composition.{composed-constant}
use Rattle.algebra.specs.Halvings.{halvings-covers}
use Rattle.algebra.proofs.KinoshitaLiLists.{levels-list-composed}
use Rattle.algebra.specs.Lists.{coefficient_beyond, length-tabulate}
use Rattle.algebra.specs.Rows.{length-plane}
use Rattle.definition.specs.KinoshitaLi.{denominator, plane}
use Rattle.definition.specs.Lists.{tabulate}
use Rattle.definition.specs.Refusal.{compose_work, limit}
use Rattle.definition.specs.Substitution.{composed, constant}
use Rattle.definition.specs.Weight.{halvings, kinoshita_li_weight}
use Rattle.buffer.specs.Segments.{segment}
use Rattle.route.specs.Contract.{Lent, Route, route_moved}
use Rattle.route.specs.Table.{written-table}
use Rattle.buffer.specs.Within.{Within, segment-sets, within-sets, within_wider}
use Rattle.levels.specs.Level.{LevelLent, Levelled}
use Rattle.levels.specs.Space.{first-steep, level_places_lem, level_rows}

pub record FractionLent (p n q : ℕ) (f w : List ℕ) : Type 0 where
  pub modulus : 0 < p
  pub positive : 0 < n
  pub order : n ≤ limit
  pub some : 0 < length f
  pub outer : length f ≤ limit
  pub first : q ≡ min 1 (length f - 1)
  pub work : compose_work n (length f) ≤ length w

pub record Fraction (p n q : ℕ) (f g after : List ℕ) (result : ℕ) : Type 0 where
  pub value : segment after ((q + 1) * n) n ≡ composed p n f g
  pub sum : result ≡ kinoshita_li_weight n (length f)

module _ {p n q : ℕ} {f w : List ℕ} (lent : FractionLent p n q f w) where
  pub first_level : {v : List ℕ} → length v ≡ length w → LevelLent p (halvings n) n q (length f - 1) f v
  first_level {v} size = record {
    modulus = lent.modulus;
    positive = lent.positive;
    order = lent.order;
    halvings = halvings-covers n;
    outer = lent.outer;
    degree = omega (arith, lent);
    low = omega (arith, lent);
    kept = omega (arith, lent);
    steep = rw lent.first (first-steep n (length f) lent.order);
    work = rw (lent.first, size) (omega (arith, lent, level_places_lem n (length f) lent.positive lent.order lent.some));
  }

  pub first_rows : (q + 1) * n ≤ length w
  first_rows = omega (arith, level_rows (halvings n) (length f) n q (length f - 1) (halvings-covers n), (first_level {v = w} refl).work)

  pub fraction-done : (g : List ℕ) {after : List ℕ} {result : ℕ}
      → Levelled p (halvings n) n q (length f - 1) f (sets w 0 (plane n (q + 1) (denominator p g))) after result
      → Fraction p n q f g after result
  unfolding kinoshita_li_weight
  fraction-done g {after} {result} done = record {
    value =
        let one : length f - (length f - 1) ≡ 1 = omega (arith, lent.some) in
        (rw (one, one-mul) at done.rows)
        ∙ rw (segment-sets w 0 Q ((q + 1) * n) (length-plane n (q + 1) (denominator p g)) (rw zero-add first_rows), lent.first, add-one)
        (levels-list-composed lent.modulus f g n lent.some lent.positive);
    sum = rw (ne_eqb (length f) 0 (λ e. omega (arith, lent.some)), ← lent.first) done.sum;
  }
    where
      Q : List ℕ
      Q = plane n (q + 1) (denominator p g)

pub none_done : {p n : ℕ} (f g w : List ℕ) {after : List ℕ} → Lent p n (length f) (length w) → length f ≡ 0
    → after ≡ sets w 0 (tabulate n (constant 0)) → Route p n f g (kinoshita_li_weight n (length f)) w after 0
unfolding kinoshita_li_weight
none_done {p} {n} f g w lent empty put = record {
  value = rw put (written-table w 0 (constant 0) n (omega (arith, lent.enough))) ∙ zeros;
  sum = rw (eq-eqb (length f) 0 empty);
  within = rw put (within-sets w 0 (tabulate n (constant 0)) (le_refl 0) (rw length-tabulate (omega arith)));
}
  where
    zeros : tabulate n (constant 0) ≡ composed p n f g
    zeros = rw (coefficient_beyond f 0 (omega arith), zero-mod) at (composed-constant p n f g (omega arith))

module _ {p n : ℕ} (f w : List ℕ) {places : ℕ} (lent : Lent p n (length f) (length w)) (counted : places ≡ compose_work n (length f)) where
  pub places-inside : places ≤ length w
  places-inside = rw counted lent.enough

  module _ {q : ℕ} (some : 0 < length f) (first : q ≡ min 1 (length f - 1)) where
    -- the rows of Q and the result lie in the places lent
    pub rows_inside : (q + 1) * n + n ≤ places
    rows_inside = omega (arith, counted, mul-le-mul_right {m = q + 1} {n = 2} n (omega arith))

    pub fraction-lent : FractionLent p n q f (take places w)
    fraction-lent = record {
      modulus = lent.modulus;
      positive = lent.positive;
      order = lent.order;
      some = some;
      outer = lent.outer;
      first = first;
      work = le_of_eq (sym counted ∙ sym (length-take-le places w places-inside));
    }

    -- l is what the places lent came back as
    pub some-done : {g l after : List ℕ} {result : ℕ} → length l ≡ places → Fraction p n q f g l result
        → after ≡ sets (l ++ drop places w) 0 (segment (l ++ drop places w) ((q + 1) * n) n)
        → Route p n f g (kinoshita_li_weight n (length f)) w after result
    some-done {l} size fraction moved =
        route_moved ((q + 1) * n) (within_wider (le_refl 0) (omega (arith, counted)) within) (kept ∙ fraction.value) fraction.sum
        (omega (arith, within.size, rows_inside, places-inside)) moved
      where
        within : Within 0 places w (l ++ drop places w)
        within = record {
          size = rw (length-append, size, length-drop) (omega (arith, places-inside));
          early = refl;
          late = rw zero-add (drop_at l (drop places w) places size);
        }

        kept : segment (l ++ drop places w) ((q + 1) * n) n ≡ segment l ((q + 1) * n) n
        kept =
            rw (drop-append-le ((q + 1) * n) l (drop places w) (omega (arith, rows_inside)))
            (take-append-le n (drop ((q + 1) * n) l) (drop places w) (rw (length-drop, size) (omega (arith, rows_inside))))
