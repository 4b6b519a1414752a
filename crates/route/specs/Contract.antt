-- The contract of a route: f(g) modulo x^n at place 0 of the work buffer, with the weight of its rule.
--
--   Lent p n m work      what every route requires of the modulus and the order, and of the counts of the outer list and of the work buffer
--   lent_less            it holds of a smaller order and a shorter outer list too
--   Route                what every route ensures
--   Finished             the contract of `finish`
--   copied_segment       a segment that is copied over a whole list
--   put-within           a route that puts g at place 0, and then works after it, works within the places lent
--   put-composed         f composed with what `put` wrote is f composed with g
--   route_moved          a route that leaves f(g) at place t of the work buffer, and then moves it to place 0
--   route_finished       a route, and then `finish`: the value in the output, and the work buffer cleared
-- Assumes nothing.
use Rattle.std.specs.Prelude.{ℕ, ◌+◌, ◌<◌, ◌≤◌, ◌≡◌, List, ◌++◌, length, take, drop}
use Rattle.std.proofs.Common.{le_refl, zero-add, arith, ◌∙◌, append-nil, length-take-le}
use Rattle.std.proofs.lemmas.List.Edits.{sets}
use Rattle.std.proofs.Math.Seq.{drop-length}
use Rattle.algebra.specs.Composition.{composed_agree}
use Rattle.algebra.specs.Lists.{coefficient-tabulate, length-tabulate}
use Rattle.buffer.specs.Written.{length_part}
use Rattle.definition.specs.Answer.{cleared}
use Rattle.definition.specs.Lists.{coefficient, tabulate}
use Rattle.definition.specs.Refusal.{compose_work, limit}
use Rattle.definition.specs.Substitution.{composed}
use Rattle.buffer.specs.Segments.{segment}
use Rattle.route.specs.Table.{written-table}
use Rattle.buffer.specs.Within.{Within, cleared-within, segment-sets, within-sets, within_trans, within_wider}

pub record Lent (p n m work : ℕ) : Type 0 where
  pub modulus : 0 < p
  pub positive : 0 < n
  pub order : n ≤ limit
  pub outer : m ≤ limit
  pub enough : compose_work n m ≤ work

pub lent_less : {p n m work k l : ℕ} → 0 < k → k ≤ n → l ≤ m → Lent p n m work → Lent p k l work
lent_less positive less short lent = record {
  modulus = lent.modulus;
  positive = positive;
  order = omega (arith, lent.order);
  outer = omega (arith, lent.outer);
  enough = omega (arith, lent.enough);
}

pub record Route (p n : ℕ) (f g : List ℕ) (weight : ℕ) (before after : List ℕ) (result : ℕ) : Type 0 where
  pub value : segment after 0 n ≡ composed p n f g
  pub sum : result ≡ weight
  pub within : Within 0 (compose_work n (length f)) before after

pub record Finished (k : ℕ) (before after out out' : List ℕ) : Type 0 where
  pub output : out' ≡ segment before 0 (length out)
  pub work : after ≡ cleared k before

pub copied_segment : (w out : List ℕ) → length out ≤ length w
    → take (length out) w ++ drop (length (take (length out) w)) out ≡ segment w 0 (length out)
copied_segment w out h = rw (length-take-le (length out) w h, drop-length, append-nil)

pub route_moved : {p n : ℕ} {f g : List ℕ} {weight : ℕ} {before then after : List ℕ} {result : ℕ} (t : ℕ)
    → Within 0 (compose_work n (length f)) before then → segment then t n ≡ composed p n f g → result ≡ weight
    → t + n ≤ length then → after ≡ sets then 0 (segment then t n) → Route p n f g weight before after result
route_moved {n = n} {then = then} t within value sum fits moved = record {
  value = rw moved (segment-sets then 0 (segment then t n) n size (omega arith) ∙ value);
  sum = sum;
  within = within_trans within (rw moved (within-sets then 0 (segment then t n) (le_refl 0) (rw size (omega arith))));
}
  where
    size : length (segment then t n) ≡ n
    size = length_part then t n fits

pub route_finished : {p n : ℕ} {f g : List ℕ} {weight k : ℕ} {out out' before then after : List ℕ} {result : ℕ}
    → Route p n f g weight before then result → compose_work n (length f) ≤ k → length out ≡ n → Finished k then after out out'
    → (out' ≡ composed p n f g) × (after ≡ cleared k before)
route_finished {then = then} route fits size done = (
  done.output ∙ rw size route.value,
  done.work ∙ cleared-within (within_wider (le_refl 0) (rw (zero-add, zero-add) fits) route.within),
)

pub put-within : {n k : ℕ} (m : ℕ) (g w : List ℕ) {u v : List ℕ} → v ≡ sets w 0 (tabulate n (coefficient g)) → Within n k v u
    → n + k ≤ compose_work n m → Within 0 (compose_work n m) w u
put-within {n} {k} m g w put h fits =
    within_trans
    (rw put (within-sets w 0 (tabulate n (coefficient g)) (le_refl 0) (rw (length-tabulate, zero-add, zero-add) (omega arith))))
    (within_wider (omega arith) (omega arith) h)

pub put-composed : {p n : ℕ} (f g w v : List ℕ) → 0 < p → n ≤ length w → v ≡ sets w 0 (tabulate n (coefficient g))
    → composed p n f (segment v 0 n) ≡ composed p n f g
put-composed {p} {n} f g w v positive fits put =
    rw (put, written-table w 0 (coefficient g) n (rw zero-add fits))
    (composed_agree positive n f (tabulate n (coefficient g)) g (λ k b. coefficient-tabulate n (coefficient g) k b))
