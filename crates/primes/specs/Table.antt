-- The table of primes written out. Its rule stands in proofs/Table.
--
--   table           the sixteen primes
use Rattle.std.specs.Prelude.{ℕ, List, [], ◌∷◌}

unfoldable pub table : List ℕ
table =
    2147483647
    ∷ 2147483629
    ∷ 2147483587
    ∷ 2147483579
    ∷ 2147483563
    ∷ 2147483549
    ∷ 2147483543
    ∷ 2147483497
    ∷ 2147483489
    ∷ 2147483477
    ∷ 2147483423
    ∷ 2147483399
    ∷ 2147483353
    ∷ 2147483323
    ∷ 2147483269
    ∷ 2147483249
    ∷ []
