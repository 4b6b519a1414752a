-- Lists of numbers below p: the test `exceeds` of the definitions. Assumes nothing.
--
--   below      where the test is false, each coefficient is below p, those past the end too
--   bounded    where each place is below p, the test is false
use Rattle.std.specs.Prelude.{ℕ, zero, suc, ◌<◌, leb, length, Bool, true, false, ◌||◌, List, [], ◌∷◌, ◌≡◌, refl}
use Rattle.std.proofs.Common.{leb-false, true≢false, arith}
use Rattle.std.proofs.lemmas.Bool.{lt-leb}
use Rattle.definition.specs.Lists.{coefficient}
use Rattle.definition.specs.Refusal.{exceeds}

neither : (a b : Bool) → (a || b) ≡ false → (a ≡ false) × (b ≡ false)
neither true b e = absurd (true≢false e)
neither false b e = (refl, e)

pub below : {p : ℕ} → 0 < p → (l : List ℕ) → exceeds p l ≡ false → (i : ℕ) → coefficient l i < p
unfolding exceeds coefficient
below h [] e i = h
below {p} h (c ∷ l) e zero = leb-false p c (neither (leb p c) (exceeds p l) e).0
below {p} h (c ∷ l) e (suc i) = below h l (neither (leb p c) (exceeds p l) e).1 i

pub bounded : (p : ℕ) (l : List ℕ) → ((i : ℕ) → i < length l → coefficient l i < p) → exceeds p l ≡ false
unfolding exceeds coefficient
bounded p [] h = refl
bounded p (c ∷ l) h = rw (lt-leb p c (h 0 (omega arith))) (bounded p l (λ i b. h (suc i) (omega arith)))
