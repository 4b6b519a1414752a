-- Trial division by the numbers prime to 30, eight of each thirty, from 7 on. The theorems over it stand in proofs/Wheel.
--
--   steps          from each of the eight to the next one
--   remainders     the remainders of the eight by 30
--   Wheel p d i    before d is tried, number i of the eight: d is above 5, and no number from 2 to d - 1 divides p
use Rattle.std.specs.Prelude.{ℕ, ◌%◌, ◌<◌, get_or, List, [], ◌∷◌, ◌≡◌}
use Rattle.field.specs.Trial.{Tried}

unfoldable pub steps : List ℕ
steps = 4 ∷ 2 ∷ 4 ∷ 2 ∷ 4 ∷ 6 ∷ 2 ∷ 6 ∷ []

-- the remainders of the eight by 30
unfoldable pub remainders : List ℕ
remainders = 7 ∷ 11 ∷ 13 ∷ 17 ∷ 19 ∷ 23 ∷ 29 ∷ 1 ∷ []

pub record Wheel (p d i : ℕ) : Type 0 where
  pub tried : Tried p d
  pub past_five : 5 < d
  pub within : i < 8
  pub place : d % 30 ≡ get_or remainders i 0
