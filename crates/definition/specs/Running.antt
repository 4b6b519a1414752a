-- The running series of a chain (01's term), from the cycles (01's term) that the chain accepted, as whole polynomials: nothing is cut or
-- reduced before the end. A copy made in the first cycle goes through the later ones, so the earliest cycle is outermost (N3).
--
--   composition cs k   coefficient k of the composition of the cycles cs, first cycle first and outermost; of no cycle it is x
--   running p n cs     the running series after these cycles: their composition modulo p and x^n, a list of n places
use Rattle.std.specs.Prelude.{ℕ, ◌%◌, List, [], ◌∷◌}
use Rattle.definition.specs.Lists.{tabulate}
use Rattle.definition.specs.Reversion.{identity_at}
use Rattle.definition.specs.Substitution.{substituted}

unfoldable pub composition : List (List ℕ) → ℕ → ℕ
composition [] = identity_at
composition (c ∷ cs) = substituted c (composition cs)

unfoldable pub running_at : ℕ → List (List ℕ) → ℕ → ℕ
running_at p cs k = composition cs k % p

unfoldable pub running : ℕ → ℕ → List (List ℕ) → List ℕ
running p n cs = tabulate n (running_at p cs)
