-- What a number that a call returns tells of what it was handed.
--
--   FieldBounds     what every call that has a modulus and an order tells of them; field-lent, it suffices for a route
--   ComposeBounds ReverseBounds OpenBounds CycleBounds       what holds where a call is accepted
--   compose-bounds reverse-bounds open_bounds cycle-bounds   number 0 tells that
--   cycle_again     what one chain accepts another one of this modulus and order accepts, unless it is full or its series unfit
--   reverse_nine    what number 9 of reverse tells
--   list-passed     the tests of order and list passed, where their number is 0
--   list-bounds     what holds of a list whose tests passed
--   render_bounds   what number 0 of rendering tells
-- Assumes nothing.
use Rattle.std.specs.Prelude.{ℕ, ◌<◌, ◌≤◌, length, true, false, ◌||◌, List, ◌≡◌, refl}
use Rattle.std.proofs.Common.{eq-eqb, leb-false, ltb-false}
use Rattle.std.proofs.lemmas.Bool.{lt-leb}
use Rattle.algebra.specs.Prime.{prime-positive}
use Rattle.definition.specs.Chain.{Chain}
use Rattle.definition.specs.Lists.{coefficient}
use Rattle.definition.specs.Prime.{Prime, largest_modulus}
use Rattle.definition.specs.Refusal.{bad_modulus, bad_order, compose_refusal, compose_work, cycle_refusal, cycle_work, exceeds, first, has_constant, irreversible, limit, longest_block, most_cycles, not_places, open_refusal, render_refusal, reverse_refusal, test}
use Rattle.field.specs.Opening.{good_modulus}
use Rattle.refusal_tests.specs.Tests.{
  Passed,
  absent,
  block_within,
  constant-zero,
  either_false,
  fired,
  first-passed,
  length-within,
  list_tests,
  order-within,
  passed,
  places-equal,
  route-within,
}
use Rattle.route.specs.Contract.{Lent}

pub record FieldBounds (p n : ℕ) : Type 0 where
  pub prime : Prime p
  pub largest : p ≤ largest_modulus
  pub positive : 0 < n
  pub order : n ≤ limit

pub record ComposeBounds (route b p n : ℕ) (f g : List ℕ) (places work : ℕ) : Type 0 where
  pub named : (0 < route) × (route ≤ 4)
  pub blocks : route ≡ 2 → (0 < b) × (b ≤ longest_block)
  pub field : FieldBounds p n
  pub outer : length f ≤ limit
  pub inner : length g ≤ limit
  pub output : places ≡ n
  pub enough : compose_work n (length f) ≤ work
  pub below-outer : exceeds p f ≡ false
  pub below-inner : exceeds p g ≡ false

pub record ReverseBounds (p n : ℕ) (g : List ℕ) (places work : ℕ) : Type 0 where
  pub field : FieldBounds p n
  pub inner : length g ≤ limit
  pub output : places ≡ n
  pub enough : compose_work n (length g) ≤ work
  pub below : exceeds p g ≡ false
  pub reversible : irreversible n g ≡ false

pub record OpenBounds (p n places : ℕ) : Type 0 where
  pub field : FieldBounds p n
  pub output : places ≡ n

pub record CycleBounds (route b : ℕ) (chain : Chain) (c s : List ℕ) (work : ℕ) : Type 0 where
  pub named : (0 < route) × (route ≤ 4)
  pub blocks : route ≡ 2 → (0 < b) × (b ≤ longest_block)
  pub field : FieldBounds chain.modulus chain.order
  pub inner : length c ≤ limit
  pub running : length s ≡ chain.order
  pub enough : cycle_work chain.order (length c) ≤ work
  pub below-inner : exceeds chain.modulus c ≡ false
  pub below-outer : exceeds chain.modulus s ≡ false
  pub constant-free : coefficient c 0 ≡ 0
  pub running-constant-free : coefficient s 0 ≡ 0
  pub not_full : chain.done < most_cycles

field-bounds : {p n : ℕ} → bad_modulus p ≡ false → bad_order n ≡ false → FieldBounds p n
field-bounds {p} {n} modulus order = record {
  prime = (good_modulus p modulus).0;
  largest = (good_modulus p modulus).1;
  positive = (order-within n order).0;
  order = (order-within n order).1;
}

pub field-lent : {p n m work : ℕ} → FieldBounds p n → m ≤ limit → compose_work n m ≤ work → Lent p n m work
field-lent b outer enough = record {
  modulus = prime-positive b.prime;
  positive = b.positive;
  order = b.order;
  outer = outer;
  enough = enough;
}

pub compose-bounds : (route b p n : ℕ) (f g : List ℕ) (places work : ℕ) → compose_refusal route b p n f g places work ≡ 0
    → ComposeBounds route b p n f g places work
unfolding compose_refusal absent Passed test
compose-bounds route b p n f g places work accepted =
    let (one, (fifteen, (two, (three, (four, (five, (six, (seven, (eight, _))))))))) = (passed 9 _ accepted refl).0 in
    let below = either_false (exceeds p f) (exceeds p g) eight in
    record {
      named = route-within route one;
      blocks = block_within route b fifteen;
      field = field-bounds two three;
      outer = length-within f four;
      inner = length-within g five;
      output = places-equal n places six;
      enough = ltb-false work _ seven;
      below-outer = below.0;
      below-inner = below.1;
    }

pub reverse-bounds : (p n : ℕ) (g : List ℕ) (places work : ℕ) → reverse_refusal p n g places work ≡ 0 → ReverseBounds p n g places work
unfolding reverse_refusal absent Passed test
reverse-bounds p n g places work accepted =
    let (two, (three, (five, (six, (seven, (eight, (nine, _))))))) = (passed 7 _ accepted refl).0 in
    record {
      field = field-bounds two three;
      inner = length-within g five;
      output = places-equal n places six;
      enough = ltb-false work _ seven;
      below = eight;
      reversible = nine;
    }

pub reverse_nine : (p n : ℕ) (g : List ℕ) (places work : ℕ) → reverse_refusal p n g places work ≡ 9
    → FieldBounds p n × (exceeds p g ≡ false) × (irreversible n g ≡ true)
unfolding reverse_refusal absent Passed test
reverse_nine p n g places work refused =
    let ((two, (three, (five, (six, (seven, (eight, _)))))), nine) = passed 6 _ refused refl in
    (field-bounds two three, eight, fired 9 _ refl nine)

pub open_bounds : (p n places : ℕ) → open_refusal p n places ≡ 0 → OpenBounds p n places
unfolding open_refusal absent Passed test
open_bounds p n places accepted =
    let (two, (three, (six, _))) = (passed 3 _ accepted refl).0 in
    record { field = field-bounds two three; output = places-equal n places six }

pub cycle-bounds : (route b : ℕ) (chain : Chain) (c s : List ℕ) (work : ℕ) → cycle_refusal route b chain c s work ≡ 0
    → CycleBounds route b chain c s work
unfolding cycle_refusal absent Passed test
cycle-bounds route b chain c s work accepted =
    let (one, (fifteen, (two, (three, (five, (six, (seven, (eight, (ten, (eleven, _)))))))))) = (passed 10 _ accepted refl).0 in
    let below = either_false (exceeds chain.modulus c) (exceeds chain.modulus s) eight in
    let constants = either_false (has_constant c) (has_constant s) ten in
    record {
      named = route-within route one;
      blocks = block_within route b fifteen;
      field = field-bounds two three;
      inner = length-within c five;
      running = places-equal chain.order (length s) six;
      enough = ltb-false work _ seven;
      below-inner = below.0;
      below-outer = below.1;
      constant-free = constant-zero c constants.0;
      running-constant-free = constant-zero s constants.1;
      not_full = leb-false most_cycles chain.done eleven;
    }

-- s' is the running series of the other chain
pub cycle_again : (route b : ℕ) (chain chain' : Chain) (c s s' : List ℕ) (work : ℕ) → cycle_refusal route b chain c s work ≡ 0
    → chain'.modulus ≡ chain.modulus → chain'.order ≡ chain.order → length s' ≡ chain.order → exceeds chain.modulus s' ≡ false
    → coefficient s' 0 ≡ 0 → chain'.done < most_cycles → cycle_refusal route b chain' c s' work ≡ 0
unfolding cycle_refusal absent Passed test has_constant not_places
cycle_again route b chain chain' c s s' work accepted modulus order places below constant-free not_full =
    let (one, (fifteen, (two, (three, (five, (_, (seven, (eight, (ten, (_, _)))))))))) = (passed 10 _ accepted refl).0 in
    let six : not_places chain.order (length s') ≡ false = rw (eq-eqb (length s') chain.order places) refl in
    let list-below = (either_false (exceeds chain.modulus c) (exceeds chain.modulus s) eight).0 in
    let eight : (exceeds chain.modulus c || exceeds chain.modulus s') ≡ false = rw list-below below in
    let ten : (has_constant c || has_constant s') ≡ false = rw ((either_false (has_constant c) (has_constant s) ten).0, constant-free) refl in
    let eleven = lt-leb most_cycles chain'.done not_full in
    rw (modulus, order) (first-passed _ (one, (fifteen, (two, (three, (five, (six, (seven, (eight, (ten, (eleven, tt)))))))))))

pub list-passed : (number n places : ℕ) → first (list_tests number n places) ≡ 0 → Passed (list_tests number n places)
unfolding absent test
list-passed number n places h = (passed 2 (list_tests number n places) h refl).0

pub list-bounds : {number : ℕ} (n places : ℕ) → number ≡ 0 → Passed (list_tests number n places) → (0 < places) × (places ≤ limit)
unfolding Passed test
list-bounds n places zero h =
    let told : Passed (list_tests 0 n places) = rw zero at h in
    rw (places-equal n places told.1.0) (order-within n told.0)

pub render_bounds : (number n places bytes text : ℕ) → render_refusal number n places bytes text ≡ 0 → Passed (list_tests number n places) × (bytes ≤ text)
unfolding Passed absent render_refusal test
render_bounds number n places bytes text h =
    let told = (passed 3 _ h refl).0 in
    ((told.0, (told.1.0, tt)), ltb-false text bytes told.1.1.0)
