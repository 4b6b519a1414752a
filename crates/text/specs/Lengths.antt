-- The coefficients of a text, and how long a text is.
--
--   spaced-none        no coefficient
--   spaced-first       the first coefficient
--   spaced-next        one coefficient more
--   spaced-part        a first part of the coefficients is not longer
--   spaced-length      coefficients of 32 bits
--   length-accepted length-refused   the length of an answer, by its parts
--   accepted-length    the most bytes of an accepted answer of an order below 100 and at most 64 coefficients
--   refused-length     the most bytes of a refusal
-- Assumes nothing.
use Rattle.std.specs.Prelude.{ℕ, zero, suc, ◌+◌, ◌*◌, ◌-◌, ◌^◌, ◌<◌, ◌≤◌, length, get_or, take, List, [], ◌∷◌, ◌++◌, ◌≡◌, refl}
use Rattle.std.proofs.Common.{add-one, arith, length-append, length-take-le, take-suc, append_assoc, sym}
use Rattle.definition.specs.Text.{accepted, decimal, no_lead, ok_lead, refused, rendered, space, spaced}
use Rattle.decimal.specs.Digits.{decimal-length, long_length, word-length}

pub spaced-none : (l : List ℕ) → length l ≡ 0 → spaced l ≡ []
unfolding spaced
spaced-none [] h = refl
spaced-none (c ∷ l) h = absurd (omega arith)

pub spaced-first : (l : List ℕ) → 0 < length l → spaced (take 1 l) ≡ decimal (get_or l 0 0)
unfolding spaced
spaced-first [] h = absurd (omega arith)
spaced-first (c ∷ l) h = refl

spaced_snoc : (l : List ℕ) (c : ℕ) → 0 < length l → spaced (l ++ (c ∷ [])) ≡ spaced l ++ space ∷ decimal c
unfolding spaced
spaced_snoc [] c h = absurd (omega arith)
spaced_snoc (b ∷ []) c h = refl
spaced_snoc (b ∷ d ∷ l) c h = rw (spaced_snoc (d ∷ l) c (omega arith)) (sym (append_assoc (decimal b) _ _))

pub spaced-next : (l : List ℕ) (i : ℕ) → 0 < i → i < length l → spaced (take (i + 1) l) ≡ spaced (take i l) ++ space ∷ decimal (get_or l i 0)
spaced-next l i positive inside =
    let size = length-take-le i l (omega arith) in
    rw (add-one, take-suc l i 0 inside) (spaced_snoc (take i l) (get_or l i 0) (omega arith))

pub spaced-part : (i : ℕ) (l : List ℕ) → length (spaced (take i l)) ≤ length (spaced l)
unfolding spaced
spaced-part zero l = omega arith
spaced-part (suc i) [] = omega arith
spaced-part (suc zero) (c ∷ []) = omega arith
spaced-part (suc (suc i)) (c ∷ []) = omega arith
spaced-part (suc zero) (c ∷ d ∷ l) = rw length-append (omega arith)
spaced-part (suc (suc i)) (c ∷ d ∷ l) = rw (length-append, length-append) (omega (arith, spaced-part (suc i) (d ∷ l)))

pub spaced-length : (l : List ℕ) → ((i : ℕ) → i < length l → get_or l i 0 < 2 ^ 32) → length (spaced l) ≤ length l * 11 - 1
unfolding spaced
spaced-length [] below = omega arith
spaced-length (c ∷ []) below = word-length c (below 0 (omega arith))
spaced-length (c ∷ d ∷ l) below =
    let rest = spaced-length (d ∷ l) (λ i inside. below (suc i) (omega arith)) in
    rw length-append (omega (arith, word-length c (below 0 (omega arith))))

pub length-accepted : (n weight : ℕ) (l : List ℕ) → length (accepted n weight l) ≡ 6 + length (decimal n) + length (decimal weight) + length (spaced l)
unfolding accepted ok_lead
length-accepted n weight l = simp length-append (omega arith)

pub length-refused : (number : ℕ) → length (refused number) ≡ 4 + length (decimal number)
unfolding refused no_lead
length-refused number = simp length-append (omega arith)

pub accepted-length : (n weight : ℕ) (l : List ℕ) → n < 100 → weight < 2 ^ 64 → length l ≤ 64 → ((i : ℕ) → i < length l → get_or l i 0 < 2 ^ 32)
    → length (rendered 0 n weight l) ≤ 731
unfolding rendered
accepted-length n weight l order word places below =
    rw length-accepted
    (omega (arith, decimal-length 2 n order (omega arith), long_length weight word, spaced-length l below))

pub refused-length : (number n weight : ℕ) (l : List ℕ) → 0 < number → number < 2 ^ 32 → length (rendered number n weight l) ≤ 14
unfolding rendered
refused-length zero n weight l above word = absurd (omega arith)
refused-length (suc number) n weight l above word = rw length-refused (omega (arith, word-length (suc number) word))
