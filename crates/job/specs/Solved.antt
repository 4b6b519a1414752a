-- From the solution of a job to its printed answer.
--
--   Result             an accepted job: its order, its weight and its composition
--   Solution           the number of a file, and where it is 0 the result in the first places of a list
--   solution_large, solution_short, solution_refused, solution_composed   the four ways to it
--   Printable          the answers that rendering prints into 731 bytes
--   printed            it accepts them
--   solution_printable, solution_printed   the solution of a job is one of them, and its printed form is the answer to the file
--   answer-within      the answer lies in the text
-- Assumes nothing.
use Prim.Native.Nat.{ℕ, zero, suc, ◌^◌, ◌<◌, ◌≤◌}
use Rattle.std.proofs.Common.{arith, length-take-le, sym, ◌∙◌}
use borrow.Author.Tests.{eq-eqb, le-ltb, ne_eqb}
use Rattle.std.proofs.Math.ListN.{length, length-append}
use Rattle.std.specs.Prelude.{get_or, take, true, false, List, ◌++◌, ◌≢◌, ◌≡◌}
use Rattle.std.proofs.Math.Seq.{take_at}
use Rattle.std.proofs.Math.Path.{refl, ap}
use Rattle.definition.specs.Answer.{answered, kept, overwritten}
use Rattle.definition.specs.Calls.{Job, Render}
use Rattle.definition.specs.Job.{compose_number, cut_short, field, inner, job_refusal, job_text, modulus, most_places, order, outer, route, too_large}
use Rattle.definition.specs.Ranged.{block_length}
use Rattle.definition.specs.Refusal.{bad_order, first, limit, not_places, render_refusal, test}
use Rattle.definition.specs.Substitution.{composed}
use Rattle.definition.specs.Text.{rendered}
use Rattle.definition.specs.Weight.{weight}
use Rattle.job_file.specs.File.{Accepted, small-order}
use Rattle.job.specs.Run.{Composition, composition-order}
use Rattle.refusal.specs.Answers.{answered-accepted, kept-accepted}
use Rattle.text.specs.Lengths.{accepted-length, refused-length}

-- the composition, where the number is 0
pub record Result (file l : List ℕ) (n weight' : ℕ) : Type 0 where
  pub positive : 0 < n
  pub stated : n ≡ order file
  pub weighs : weight' ≡ weight (route file) block_length (modulus file) (order file) (field file 3)
  pub composes : l ≡ composed (modulus file) (order file) (outer file) (inner file)

pub record Solution (file output : List ℕ) (number n weight' : ℕ) : Type 0 where
  pub refusal : number ≡ job_refusal file
  pub small : n ≤ most_places
  pub fits : n ≤ length output
  pub result : number ≡ 0 → Result file (take n output) n weight'

pub solution_large : {file : List ℕ} (output : List ℕ) → too_large file ≡ true → Solution file output 12 0 0
unfolding job_refusal
solution_large output large = record {
  refusal = rw large;
  small = omega arith;
  fits = omega arith;
  result = λ e. absurd (omega arith);
}

pub solution_short : {file : List ℕ} (output : List ℕ) → too_large file ≡ false → cut_short file ≡ true → Solution file output 13 0 0
unfolding job_refusal
solution_short output large short = record {
  refusal = rw (large, short);
  small = omega arith;
  fits = omega arith;
  result = λ e. absurd (omega arith);
}

module _ {file : List ℕ} (accepted : Accepted file) where
  pub solution_refused : {number : ℕ} (output : List ℕ) → number ≡ compose_number file → number ≢ 0 → Solution file output number 0 0
  unfolding job_refusal
  solution_refused output same refused = record {
    refusal = rw (accepted.large, accepted.short) same;
    small = omega arith;
    fits = omega arith;
    result = λ e. absurd (refused e);
  }

  pub solution_composed : {number n weight' : ℕ} (output rest : List ℕ) {output' : List ℕ} → n ≡ order file → length output ≡ n → length output' ≡ n
      → Composition file output output' number weight' → Solution file (output' ++ rest) number n weight'
  unfolding job_refusal
  solution_composed {number} {n} {weight'} output rest {output'} stated size size' c = record {
    refusal = rw (accepted.large, accepted.short) c.refusal;
    small = omega (arith, small-order accepted);
    fits = omega (arith, length-append output' rest);
    result = λ e. record {
      positive = rw stated (composition-order file (sym c.refusal ∙ e));
      stated = stated;
      weighs = c.weighs ∙ answered-accepted _ e;
      composes = take_at output' rest n size' ∙ c.leaves ∙ kept-accepted _ _ e;
    };
  }

-- an answer that rendering accepts, and that has room in 731 bytes
pub record Printable (number n : ℕ) (l : List ℕ) : Type 0 where
  pub small : n ≤ most_places
  pub places : length l ≡ n
  pub positive : number ≡ 0 → 0 < n

length-rendered : (number n weight' : ℕ) (l : List ℕ) → n < 100 → number < 2 ^ 32 → weight' < 2 ^ most_places → length l ≤ most_places
    → ((i : ℕ) → i < length l → get_or l i 0 < 2 ^ 32) → length (rendered number n weight' l) ≤ 731
length-rendered zero n weight' l order word long few below = accepted-length n weight' l order long few below
length-rendered (suc number) n weight' l order word long few below = omega (arith, refused-length (suc number) n weight' l (omega arith) word)

module _ {number n : ℕ} {l : List ℕ} (printable : Printable number n l) where
  not_refused : (bytes text : ℕ) → bytes ≤ text → render_refusal number n (length l) bytes text ≡ 0
  unfolding bad_order first not_places render_refusal test
  not_refused bytes text room = go number printable.positive
    where
      go : (r : ℕ) → (r ≡ 0 → 0 < n) → render_refusal r n (length l) bytes text ≡ 0
      go zero positive =
          let above = positive refl in
          rw (
            ne_eqb n 0 (λ e. omega arith),
            le-ltb limit n (omega (arith, printable.small)),
            eq-eqb (length l) n printable.places,
            le-ltb text bytes room,
          )
      go (suc r) positive = rw (ne_eqb (suc r) 0 (λ e. omega arith), le-ltb text bytes room)

  pub printed : {weight' : ℕ} {text text' : List ℕ} {number' count : ℕ} → number < 2 ^ 32 → weight' < 2 ^ most_places
      → ((i : ℕ) → get_or l i 0 < 2 ^ 32) → length text ≡ 731 → Render number n weight' l text text' number' count
      → Render number n weight' l text text' 0 count
  printed {weight'} {text} {text'} {number'} {count} word long below size r =
      let few : length l ≤ most_places = omega (arith, printable.small, printable.places) in
      let order : n < 100 = omega (arith, printable.small) in
      let fits = length-rendered number n weight' l order word long few (λ i inside. below i) in
      let none : number' ≡ 0 = r.refusal ∙ not_refused _ (length text) (rw size fits) in
      rw none at r

module _ {file output : List ℕ} {number n weight' : ℕ} (solution : Solution file output number n weight') where
  same_text : rendered number n weight' (take n output) ≡ job_text file
  unfolding job_text rendered
  same_text = go number solution.refusal solution.result
    where
      go : (r : ℕ) → r ≡ job_refusal file → (r ≡ 0 → Result file (take n output) n weight') → rendered r n weight' (take n output)
          ≡ rendered (job_refusal file) (order file) (weight (route file) block_length (modulus file) (order file) (field file 3))
          (composed (modulus file) (order file) (outer file) (inner file))
      go zero e result =
          let r = result refl in
          rw (← e, ← r.composes, ← r.weighs, ← r.stated)
      go (suc r) e result = rw (← e)

  pub solution_printable : Printable number n (take n output)
  solution_printable = record {
    small = solution.small;
    places = length-take-le n output solution.fits;
    positive = λ e. (solution.result e).positive;
  }

  pub solution_printed : {text text' : List ℕ} {count : ℕ} → Render number n weight' (take n output) text text' 0 count → Job file text text' count
  unfolding answered kept
  solution_printed {text} r = record {
    counts = r.counts ∙ ap length same_text;
    writes = r.writes ∙ ap (λ t. overwritten t text) same_text;
  }

pub answer-within : {file text text' : List ℕ} {count : ℕ} → Job file text text' count → count ≤ length text'
unfolding overwritten
answer-within {file} {text} job = rw (job.writes, length-append) (omega (arith, job.counts))
