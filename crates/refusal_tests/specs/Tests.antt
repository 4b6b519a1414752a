-- The number of a list of tests, and what each test tells where it does not fire.
--
--   field_tests routed_tests   the tests that many calls begin with
--   list_tests                the tests that rendering makes of order and list
--   number_after earlier ts   the number of the tests ts where those before them have the number `earlier`
--   absent r ts              no test of the list has the number r
--   Passed ts                no test of the list fires
--   after_earlier after-fired after-passed   one further test: an earlier one fired, or it fires, or it does not
--   told                     one further test, by what the function answers that makes it
--   followed                 a list, and then further tests
--   routed_told              the tests that calls with a route begin with, by what the functions answer that make them
--   either                   two tests of one number that follow each other are one
--   passed                   the first k tests did not fire, where none of them has the number of the list
--   first-passed             the number of a list of which no test fires
--   first-same               what follows a list of tests counts only where no test of the list fires
--   fired                    a last test whose number is the number of the list fired
--   factor-fits short-factor short-rest   the test of the places of work, in steps that fit a word
--   either_false             of two tests that are one, neither fired
--   places-equal route-within block_within order-within length-within constant-zero   what tests tell that did not fire
-- Assumes nothing.
use Rattle.std.specs.Prelude.{ℕ, zero, suc, ◌+◌, ◌-◌, ◌*◌, ◌/◌, ◌<◌, ◌≤◌, eqb, ltb, length, take, drop, Bool, true, false, cond, not, ◌&&◌, ◌||◌, List, [], ◌∷◌, ◌++◌, ◌≢◌, ◌≡◌, refl}
use Rattle.std.proofs.Common.{div-lt_iff_lt-mul, le-div_iff_mul-le, mul_comm, arith, eqb-true, le-ltb, lt-ltb, ltb-false, ltb-true, true≢false, sym, ◌∙◌}
use Rattle.std.proofs.lemmas.Bool.{eqb-false, not-false}
use Rattle.definition.specs.Lists.{coefficient}
use Rattle.definition.specs.Refusal.{Test, bad_block, bad_modulus, bad_order, bad_route, first, has_constant, limit, longest_block, not_places, test, too_long}

abbrev pub field_tests : ℕ → ℕ → List Test
field_tests p n = test 2 (bad_modulus p) ∷ test 3 (bad_order n) ∷ []

abbrev pub routed_tests : ℕ → ℕ → ℕ → ℕ → List Test
routed_tests route b p n = test 1 (bad_route route) ∷ test 15 (bad_block route b) ∷ field_tests p n

abbrev pub list_tests : ℕ → ℕ → ℕ → List Test
list_tests number n places = test 3 (eqb number 0 && bad_order n) ∷ test 6 (eqb number 0 && not_places n places) ∷ []

unfoldable pub number_after : ℕ → List Test → ℕ
number_after zero ts = first ts
number_after (suc earlier) ts = suc earlier

unfoldable pub absent : ℕ → List Test → Bool
absent r [] = true
absent r (t ∷ ts) = not (eqb t.number r) && absent r ts

unfoldable pub Passed : List Test → Type 0
Passed [] = Unit {0}
Passed (t ∷ ts) = (t.fires ≡ false) × Passed ts

absent_cons : {a b : Bool} → (not a && b) ≡ true → (a ≡ false) × (b ≡ true)
absent_cons {a = true} h = absurd (true≢false (sym h))
absent_cons {a = false} h = (refl, h)

pub after_earlier : (earlier : ℕ) (ts : List Test) → earlier ≢ 0 → earlier ≡ number_after earlier ts
unfolding number_after
after_earlier zero ts h = absurd (h refl)
after_earlier (suc earlier) ts h = refl

pub after-fired : {earlier : ℕ} (own : ℕ) {b : Bool} → earlier ≡ 0 → b ≡ true → own ≡ number_after earlier (test own b ∷ [])
unfolding number_after first test
after-fired own z e = rw (z, e)

pub after-passed : {earlier : ℕ} (own : ℕ) {b : Bool} → earlier ≡ 0 → b ≡ false → 0 ≡ number_after earlier (test own b ∷ [])
unfolding number_after first test
after-passed own z e = rw (z, e)

pub told : (own earlier : ℕ) {answer b : Bool} {r : ℕ} → answer ≡ b → r ≡ number_after earlier (test own answer ∷ [])
    → r ≡ number_after earlier (test own b ∷ [])
told own earlier e h = rw (← e) h

first-append : (ts us : List Test) → absent 0 ts ≡ true → number_after (first ts) us ≡ first (ts ++ us)
unfolding absent number_after first
first-append [] us none = refl
first-append (t ∷ ts) us none =
    let (other, rest) = absent_cons none in
    step t.fires (eqb-false t.number 0 other) (first-append ts us rest)
  where
    step : (b : Bool) → t.number ≢ 0 → number_after (first ts) us ≡ first (ts ++ us)
        → number_after (cond b t.number (first ts)) us ≡ cond b t.number (first (ts ++ us))
    step true other rest = sym (after_earlier t.number us other)
    step false other rest = rest

pub followed : (ts us : List Test) {earlier r : ℕ} → earlier ≡ first ts → r ≡ number_after earlier us → absent 0 ts ≡ true → r ≡ first (ts ++ us)
followed ts us e h none = h ∙ rw e (first-append ts us none)

-- the tests of route, block length, modulus and order, by what the functions answer that make three of them
pub routed_told : (route b p n : ℕ) {k : ℕ} {unknown unfit outside : Bool} → unknown ≡ bad_route route → unfit ≡ bad_block route b → outside ≡ bad_order n
    → k ≡ first (test 1 unknown ∷ test 15 unfit ∷ test 2 (bad_modulus p) ∷ test 3 outside ∷ []) → k ≡ first (routed_tests route b p n)
routed_told route b p n e f g h = rw (← e, ← f, ← g) h

pub either : (own : ℕ) (a b : Bool) (earlier : ℕ) {k r : ℕ} → k ≡ number_after earlier (test own a ∷ []) → r ≡ number_after k (test own b ∷ []) → own ≢ 0
    → r ≡ number_after earlier (test own (a || b) ∷ [])
unfolding number_after first test
either own a b (suc earlier) h g other = rw h at g
either own true b zero h g other = (rw h at g) ∙ sym (after_earlier own (test own b ∷ []) other)
either own false b zero h g other = rw h at g

pub passed : (k : ℕ) (ts : List Test) {r : ℕ} → first ts ≡ r → absent r (take k ts) ≡ true → Passed (take k ts) × (first (drop k ts) ≡ r)
unfolding absent first Passed
passed zero ts h none = (tt, h)
passed (suc k) [] h none = (tt, h)
passed (suc k) (t ∷ ts) {r} h none =
    let (other, rest) = absent_cons none in
    step t.fires h (eqb-false t.number r other) (λ e. passed k ts e rest)
  where
    step : (b : Bool) → cond b t.number (first ts) ≡ r → t.number ≢ r → (first ts ≡ r → Passed (take k ts) × (first (drop k ts) ≡ r))
        → ((b ≡ false) × Passed (take k ts)) × (first (drop k ts) ≡ r)
    step true h other rest = absurd (other h)
    step false h other rest = ((refl, (rest h).0), (rest h).1)

pub first-passed : (ts : List Test) → Passed ts → first ts ≡ 0
unfolding first Passed
first-passed [] h = refl
first-passed (t ∷ ts) h = rw h.0 (first-passed ts h.1)

pub first-same : (ts us vs : List Test) → (Passed ts → first us ≡ first vs) → first (ts ++ us) ≡ first (ts ++ vs)
unfolding first Passed
first-same [] us vs h = h tt
first-same (t ∷ ts) us vs h = step t.fires refl (λ p. first-same ts us vs p)
  where
    step : (b : Bool) → t.fires ≡ b → ((Passed ts → first us ≡ first vs) → first (ts ++ us) ≡ first (ts ++ vs))
        → cond b t.number (first (ts ++ us)) ≡ cond b t.number (first (ts ++ vs))
    step true e rest = refl
    step false e rest = rest (λ p. h (e, p))

pub fired : (n : ℕ) (b : Bool) → eqb 0 n ≡ false → first (test n b ∷ []) ≡ n → b ≡ true
unfolding first test
fired n true positive h = refl
fired n false positive h = absurd (eqb-false 0 n positive h)

module _ (factor n work : ℕ) (positive : 0 < factor) where
  pub factor-fits : n ≤ work / factor → factor * n ≤ work
  factor-fits h = rw mul_comm ((le-div_iff_mul-le positive).0 h)

  pub short-factor : (m : ℕ) → work / factor < n → ltb work (factor * n + 8 * m) ≡ true
  short-factor m h =
      let above : work < factor * n = rw mul_comm ((div-lt_iff_lt-mul positive).0 h) in
      lt-ltb work _ (omega arith)

pub short-rest : (k m work : ℕ) → k ≤ work → ltb ((work - k) / 8) m ≡ ltb work (k + 8 * m)
short-rest k m work h = go (ltb ((work - k) / 8) m) refl
  where
    go : (b : Bool) → ltb ((work - k) / 8) m ≡ b → b ≡ ltb work (k + 8 * m)
    go true e = sym (lt-ltb work (k + 8 * m) (omega (arith, ltb-true ((work - k) / 8) m e)))
    go false e = sym (le-ltb work (k + 8 * m) (omega (arith, ltb-false ((work - k) / 8) m e)))

pub places-equal : (n places : ℕ) → not_places n places ≡ false → places ≡ n
unfolding not_places
places-equal n places h = eqb-true places n (not-false _ h)

pub either_false : (a b : Bool) → (a || b) ≡ false → (a ≡ false) × (b ≡ false)
either_false true b h = absurd (true≢false h)
either_false false b h = (refl, h)

-- a number that is not 0, and not above a bound
within : (k bound : ℕ) → (eqb k 0 || ltb bound k) ≡ false → (0 < k) × (k ≤ bound)
within k bound h =
    let e = either_false (eqb k 0) (ltb bound k) h in
    let above : k ≡ 0 → ⊥ = eqb-false k 0 e.0 in
    let top : k ≤ bound = ltb-false bound k e.1 in
    (omega arith, top)

pub route-within : (route : ℕ) → bad_route route ≡ false → (0 < route) × (route ≤ 4)
unfolding bad_route
route-within route h = within route 4 h

pub block_within : (route b : ℕ) → bad_block route b ≡ false → route ≡ 2 → (0 < b) × (b ≤ longest_block)
unfolding bad_block
block_within route b h two = within b longest_block (rw two at h)

pub order-within : (n : ℕ) → bad_order n ≡ false → (0 < n) × (n ≤ limit)
unfolding bad_order
order-within n h = within n limit h

pub length-within : (l : List ℕ) → too_long l ≡ false → length l ≤ limit
unfolding too_long
length-within l h = ltb-false limit (length l) h

pub constant-zero : (l : List ℕ) → has_constant l ≡ false → coefficient l 0 ≡ 0
unfolding has_constant
constant-zero l h = eqb-true (coefficient l 0) 0 (not-false _ h)
