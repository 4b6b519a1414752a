-- The whole case of 01: a job file of 52 bytes, and the text that it prints. It is computed through the definitions of the job file, of
-- compose's refusals, of substitution, of the weight and of the text.
--
--   file         route 1, modulus 7, order 4, outer count 3 at 28, inner count 3 at 40; 1 2 3; 0 1 1
--   text         `ok 4 8`, `1 2 5 6`
--   whole_case   the file prints the text
--
-- Assumes nothing.
use Rattle.std.specs.Prelude.{ℕ, ◌≡◌, refl, List, [], ◌∷◌, length}
use Rattle.definition.specs.Lists.{sum, tabulate, coefficient, ceil_div}
use Rattle.definition.specs.Substitution.{product_term, product, constant, power, substituted_term, substituted, composed_at, composed}
use Rattle.definition.specs.Weight.{horner_weight, weight}
use Rattle.definition.specs.Prime.{indivisible, is_prime, largest_modulus}
use Rattle.definition.specs.Refusal.{test, first, bad_route, bad_block, bad_modulus, bad_order, too_long, not_places, exceeds, compose_refusal}
use Rattle.definition.specs.Text.{decimal_within, decimal, space, line_end, ok_lead, no_lead, spaced, accepted, refused, rendered}
use Rattle.definition.specs.Job.{header_bytes, word, field, route, modulus, order, word_of, list_at, outer, inner, too_large, misplaced, cut_short, compose_number, job_refusal, job_text}

-- a number below 256 in four bytes
abbrev word32 : ℕ → List ℕ → List ℕ
word32 x bytes = x ∷ 0 ∷ 0 ∷ 0 ∷ bytes

abbrev pub file : List ℕ
file =
    word32 1
    (word32 7
    (word32 4
    (word32 3 (word32 28 (word32 3 (word32 40 (word32 1 (word32 2 (word32 3 (word32 0 (word32 1 (word32 1 []))))))))))))

abbrev pub text : List ℕ
text = 111 ∷ 107 ∷ 32 ∷ 52 ∷ 32 ∷ 56 ∷ 10 ∷ 49 ∷ 32 ∷ 50 ∷ 32 ∷ 53 ∷ 32 ∷ 54 ∷ 10 ∷ []

pub whole_case : (length file ≡ 52) × (job_text file ≡ text)
unfolding sum tabulate coefficient ceil_div product_term product constant power substituted_term substituted composed_at composed horner_weight weight indivisible is_prime largest_modulus test first bad_route bad_block bad_modulus bad_order too_long not_places exceeds compose_refusal decimal_within decimal space line_end ok_lead no_lead spaced accepted refused rendered header_bytes word field route modulus order word_of list_at outer inner too_large misplaced cut_short compose_number job_refusal job_text
whole_case = (refl, refl)
