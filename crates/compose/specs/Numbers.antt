-- The weight of the route of each number.
--
--   weight-1 weight-2 weight-3 weight-4   the definition's `weight` at each of the four numbers
-- Assumes nothing.
use Rattle.std.specs.Prelude.{ℕ, ◌≢◌, ◌≡◌}
use borrow.Author.Tests.{ne_eqb}
use Rattle.definition.specs.Weight.{bernstein_weight, horner_weight, kinoshita_li_weight, ranged_weight, weight}

module _ {route : ℕ} (b p n m : ℕ) where
  pub weight-1 : route ≡ 1 → weight route b p n m ≡ horner_weight n m
  unfolding weight
  weight-1 e = rw e

  pub weight-2 : route ≡ 2 → weight route b p n m ≡ ranged_weight b n m
  unfolding weight
  weight-2 e = rw e

  pub weight-3 : route ≡ 3 → weight route b p n m ≡ bernstein_weight p n m
  unfolding weight
  weight-3 e = rw e

  pub weight-4 : route ≢ 1 → route ≢ 2 → route ≢ 3 → weight route b p n m ≡ kinoshita_li_weight n m
  unfolding weight
  weight-4 other-1 other-2 other-3 = rw (ne_eqb route 1 other-1, ne_eqb route 2 other-2, ne_eqb route 3 other-3)
