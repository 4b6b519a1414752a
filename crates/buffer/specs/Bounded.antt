-- The test `exceeds` of the definitions, place by place: whether a number of the list is p or more.
--
--   exceeds-next     a place below p does not decide the test
--   exceeds_found    a place that is p or more decides it
-- Assumes nothing.
use Rattle.std.specs.Prelude.{ℕ, ◌+◌, ◌<◌, ◌≤◌, ◌≡◌, true, List, length, get_or, drop}
use Rattle.std.proofs.Common.{add-one, le-leb, drop-cons}
use Rattle.std.proofs.lemmas.Bool.{lt-leb}
use Rattle.definition.specs.Refusal.{exceeds}

module _ (p : ℕ) (l : List ℕ) (i : ℕ) (inside : i < length l) where
  pub exceeds-next : get_or l i 0 < p → exceeds p (drop i l) ≡ exceeds p (drop (i + 1) l)
  unfolding exceeds
  exceeds-next h = rw (drop-cons l i 0 inside, add-one) (rw (lt-leb p (get_or l i 0) h))

  pub exceeds_found : p ≤ get_or l i 0 → exceeds p (drop i l) ≡ true
  unfolding exceeds
  exceeds_found h = rw (drop-cons l i 0 inside) (rw (le-leb p (get_or l i 0) h))
