-- The reverse series.
--
--   identity n        x modulo x^n: a list of n places
--   Reversion p n g h   h is a list of n places below p, without constant term, for which g(h) is x modulo x^n
use Rattle.std.specs.Prelude.{ℕ, zero, suc, ◌≡◌, false, List, length}
use Rattle.definition.specs.Lists.{tabulate, coefficient}
use Rattle.definition.specs.Substitution.{constant, composed}
use Rattle.definition.specs.Refusal.{exceeds}

unfoldable pub identity_at : ℕ → ℕ
identity_at zero = 0
identity_at (suc k) = constant 1 k

unfoldable pub identity : ℕ → List ℕ
identity n = tabulate n identity_at

pub record Reversion (p n : ℕ) (g h : List ℕ) : Type 0 where
  pub places : length h ≡ n
  pub below : exceeds p h ≡ false
  pub no_constant : coefficient h 0 ≡ 0
  pub reverses : composed p n g h ≡ identity n
