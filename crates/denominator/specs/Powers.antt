-- Powers that do not occur in 1 - y g.
--
--   constant_beyond      in a constant
--   denominator_beyond   in 1 - y g
-- Assumes nothing.
use Rattle.std.specs.Prelude.{ℕ, zero, suc, ◌≡◌, refl, List}
use Rattle.definition.specs.KinoshitaLi.{denominator}
use Rattle.definition.specs.Substitution.{constant}

pub constant_beyond : (c i : ℕ) → (i ≡ 0 → ⊥) → constant c i ≡ 0
unfolding constant
constant_beyond c zero h = absurd (h refl)
constant_beyond c (suc i) h = refl

pub denominator_beyond : (p : ℕ) (g : List ℕ) (j i : ℕ) → (j ≡ 0 → ⊥) → (j ≡ 1 → ⊥) → denominator p g j i ≡ 0
unfolding denominator
denominator_beyond p g zero i h l = absurd (h refl)
denominator_beyond p g (suc zero) i h l = absurd (l refl)
denominator_beyond p g (suc (suc j)) i h l = refl
