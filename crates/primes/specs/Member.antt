-- Whether a number is an entry of a list.
--
--   member p t       the test, entry by entry
--   member_here      it is passed where entry i is p
--   member_past      entry i is not p: what is left of the list decides
--   member-holds     what holds of every entry holds of a number that passes
-- Assumes nothing.
use Rattle.std.specs.Prelude.{ℕ, suc, ◌+◌, ◌<◌, eqb, drop, get_or, length, Bool, true, false, ◌||◌, List, [], ◌∷◌, ◌≢◌, ◌≡◌, refl}
use borrow.Author.Tests.{eq-eqb, eqb-true, ne_eqb}
use Rattle.std.proofs.Common.{drop-cons, add-one, arith}
use Rattle.std.proofs.lemmas.Bool.{false≢true}

unfoldable pub member : ℕ → List ℕ → Bool
member p [] = false
member p (q ∷ t) = eqb q p || member p t

module _ (p : ℕ) (t : List ℕ) (i : ℕ) (within : i < length t) where
  pub member_here : get_or t i 0 ≡ p → member p (drop i t) ≡ true
  unfolding member
  member_here e = rw (drop-cons t i 0, eq-eqb (get_or t i 0) p e)

  pub member_past : get_or t i 0 ≢ p → member p (drop i t) ≡ member p (drop (i + 1) t)
  unfolding member
  member_past other = rw (drop-cons t i 0, ne_eqb (get_or t i 0) p other, add-one)

pub member-holds : (P : ℕ → Type 0) (t : List ℕ) → ((i : ℕ) → i < length t → P (get_or t i 0)) → (p : ℕ) → member p t ≡ true → P p
unfolding member
member-holds P [] every p e = absurd (false≢true e)
member-holds P (q ∷ t) every p e = go (eqb q p) refl e (member-holds P t (λ i l. every (suc i) (omega arith)) p)
  where
    go : (b : Bool) → eqb q p ≡ b → (b || member p t) ≡ true → (member p t ≡ true → P p) → P p
    go true here _ _ = rw (eqb-true q p here) at (every 0 (omega arith))
    go false other e later = later e
