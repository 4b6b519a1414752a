-- The composition of a job, and the numbers that it can meet.
--
--   Lists              the lists of a file that the tests 12 and 13 let pass, and an output of exactly n places
--   Composition        what compose leaves for a file
--   lists-few          the order and the outer count are at most 64
--   work-fits          the work for the largest order and count is enough
--   composition        a call of compose on the lists of a file, with just enough work, is its composition
--   composition-order  the order of a job that compose accepts is not 0
--   job_numbers        the job program meets no number but 0, 1, 2, 3, 8, 12 and 13
-- Assumes nothing.
use Rattle.std.specs.Prelude.{ℕ, ◌<◌, ◌≤◌, eqb, length, Bool, false, cond, ◌&&◌, ◌||◌, List, [], ◌∷◌, ◌≢◌, ◌≡◌}
use native.Mathlib.Omega.{arith}
use borrow.Author.Tests.{eq-eqb, le-ltb, ne_eqb}
use Rattle.std.proofs.Math.Bool.{true}
use Rattle.std.proofs.Math.Path.{refl}
use Rattle.std.proofs.Common.{sym, ap, ◌∙◌}
use Rattle.definition.specs.Answer.{answered, kept}
use Rattle.definition.specs.Calls.{Compose}
use Rattle.definition.specs.Job.{compose_number, cut_short, field, inner, job_refusal, modulus, most_places, order, outer, route, too_large}
use Rattle.definition.specs.Ranged.{block_length}
use Rattle.definition.specs.Refusal.{Test, bad_block, bad_modulus, bad_order, bad_route, compose_refusal, compose_work, exceeds, first, limit, not_places, test, too_long}
use Rattle.definition.specs.Substitution.{composed}
use Rattle.definition.specs.Weight.{weight}
use Rattle.job_file.specs.File.{Accepted, length-list_at, small-inner, small-order, small-outer}
use Rattle.refusal.specs.Bounds.{compose-bounds}
use Rattle.refusal_tests.specs.Tests.{absent, passed}

length-outer : (file : List ℕ) → length (outer file) ≡ field file 3
unfolding outer
length-outer file = length-list_at file _ _

length-inner : (file : List ℕ) → length (inner file) ≡ field file 5
unfolding inner
length-inner file = length-list_at file _ _

pub record Lists (file f g output : List ℕ) : Type 0 where
  pub accepted : Accepted file
  pub outer-list : f ≡ outer file
  pub inner-list : g ≡ inner file
  pub places : length output ≡ order file

pub record Composition (file output output' : List ℕ) (number weight' : ℕ) : Type 0 where
  pub refusal : number ≡ compose_number file
  pub weighs : weight' ≡ answered number (weight (route file) block_length (modulus file) (order file) (field file 3))
  pub leaves : output' ≡ kept number (composed (modulus file) (order file) (outer file) (inner file)) output

module _ {file f g output : List ℕ} (lists : Lists file f g output) where
  outer-count : length f ≡ field file 3
  outer-count = ap length lists.outer-list ∙ length-outer file

  pub lists-few : (length output ≤ most_places) × (length f ≤ most_places)
  lists-few =
      let n = small-order lists.accepted in
      let m = small-outer lists.accepted in
      (omega (arith, lists.places), omega (arith, outer-count))

  pub work-fits : {end : ℕ} (work : List ℕ) → end ≡ compose_work (length output) (length f) → compose_work most_places most_places ≡ length work → end ≤ length work
  work-fits work counted size = omega (arith, lists-few)

  pub composition : {output' work work' : List ℕ} {named p number weight' : ℕ} → named ≡ field file 0 → p ≡ field file 1
      → length work ≡ compose_work (length output) (length f)
      → Compose named block_length p (length output) f g output output' work work' number weight' → Composition file output output' number weight'
  unfolding compose_number modulus route
  composition {named} {p} first second enough answer = record {
    refusal = rw (← first, ← second, ← lists.outer-list, ← lists.inner-list, ← lists.places, ← outer-count, ← enough) answer.refusal;
    weighs = rw (← first, ← second, ← lists.places, ← outer-count) answer.weighs;
    leaves = rw (← second, ← lists.outer-list, ← lists.inner-list, ← lists.places) answer.output;
  }

pub composition-order : (file : List ℕ) → compose_number file ≡ 0 → 0 < order file
unfolding compose_number
composition-order file accepted = (compose-bounds _ _ _ _ _ _ _ _ accepted).field.positive

-- the tests that compose makes of a file that the tests 12 and 13 let pass: the others do not fire
abbrev job_tests : List ℕ → List Test
job_tests file =
    test 1 (bad_route (route file))
    ∷ test 2 (bad_modulus (modulus file))
    ∷ test 3 (bad_order (order file))
    ∷ test 8 (exceeds (modulus file) (outer file) || exceeds (modulus file) (inner file))
    ∷ []

and_false : (a : Bool) → (a && false) ≡ false
and_false true = refl
and_false false = refl

module _ {file : List ℕ} (accepted : Accepted file) where
  few_tests : compose_number file ≡ first (job_tests file)
  unfolding bad_block compose_number compose_refusal first not_places test too_long
  few_tests =
      let outer-count = small-outer accepted in
      let inner-count = small-inner accepted in
      rw (
        and_false (eqb (route file) 2),
        le-ltb limit (length (outer file)) (rw length-outer (omega arith)),
        le-ltb limit (length (inner file)) (rw length-inner (omega arith)),
        eq-eqb (order file) (order file) refl,
        length-outer,
        le-ltb (compose_work (order file) (field file 3)) (compose_work (order file) (field file 3)) (omega arith),
      )

  compose_numbers : (r : ℕ) → 3 < r → r ≢ 8 → compose_number file ≢ r
  unfolding absent test first
  compose_numbers r low other-8 e =
      let other : absent r (job_tests file) ≡ true =
      rw (ne_eqb 1 r (λ h. omega arith), ne_eqb 2 r (λ h. omega arith), ne_eqb 3 r (λ h. omega arith), ne_eqb 8 r (λ h. other-8 (sym h))) in
      let none = (passed 4 (job_tests file) (sym few_tests ∙ e) other).1 in
      omega arith

pub job_numbers : (file : List ℕ) (r : ℕ) → 3 < r → r ≢ 8 → r ≢ 12 → r ≢ 13 → job_refusal file ≢ r
unfolding job_refusal
job_numbers file r low other-8 other-12 other-13 = go (too_large file) (cut_short file) refl refl
  where
    go : (large short : Bool) → too_large file ≡ large → cut_short file ≡ short → cond large 12 (cond short 13 (compose_number file)) ≢ r
    go true short e h = λ q. other-12 (sym q)
    go false true e h = λ q. other-13 (sym q)
    go false false e h = compose_numbers (record { large = e; short = h }) r low other-8
