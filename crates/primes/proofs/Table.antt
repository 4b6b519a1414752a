-- The rule of the table written out, by one test that is computed: no odd number below 65537 divides an entry, and one divides each number
-- between two neighbours. It stands here, and not in specs/, so that a table that breaks it is refused by a proof.
--
--   table-written   the sixteen primes are the table of the definitions
--   table-rule      the rule of the table
--   table-only      a list that keeps the rule is this one
--   member-prime    a number of the table is prime
--   member_written  the entries of the table are the sixteen
-- Assumes nothing.
use Rattle.std.specs.Prelude.{ℕ, suc, ◌*◌, ◌<◌, ◌≤◌, ◌==◌, get_or, true, List, ◌∷◌, ◌≡◌, refl}
use Rattle.std.specs.List.{list_any}
use Rattle.std.proofs.Common.{lit≤, arith}
use Rattle.definition.specs.Prime.{Prime}
use Rattle.definition.specs.PrimeTable.{TableRule, table_bound, prime_table}
use Rattle.definition.proofs.TableDetermined.{table-rule_determined}
use Rattle.primes.specs.Member.{member, member-holds}
use Rattle.primes.specs.Sieve.{
  Next,
  composites,
  coprime,
  free,
  gaps,
  odd_trial,
  product,
  quick,
  reach,
  rest,
  sieved,
  sieved-below,
  sieved-next,
  trial,
}
use Rattle.primes.specs.Table.{table}

tested : sieved table_bound table ≡ true
unfolding sieved free rest coprime product gaps composites quick odd_trial trial table table_bound
tested = refl

within : table_bound ≤ reach * reach
unfolding table_bound
within = lit≤ tt

pub table-written : prime_table ≡ table
unfolding prime_table table
table-written = sieved-below table_bound table within tested

-- entry i is the largest prime below the entry before it
next : (i : ℕ) → i < 16 → Next (get_or (table_bound ∷ table) i 0) (get_or table i 0)
unfolding table
next i l = sieved-next table_bound table within tested i l

written : TableRule table
unfolding table table_bound
written =
    record {
      sixteen = refl;
      first = refl;
      prime = λ i l. (next i l).prime;
      falling = λ i l. (next (suc i) l).below;
      none_above = λ q l h. (next 0 (omega arith)).none q l (omega arith);
      none_between = λ i l. (next (suc i) l).none;
    }

pub table-rule : TableRule prime_table
table-rule = rw table-written written

pub table-only : (t : List ℕ) → TableRule t → t ≡ table
table-only t rule = table-rule_determined rule written

pub member-prime : (p : ℕ) → member p prime_table ≡ true → Prime p
member-prime = member-holds Prime prime_table (λ i l. table-rule.prime i (omega (arith, table-rule.sixteen)))

pub member_written : (p : ℕ) → member p prime_table ≡ list_any (λ q. q == p) table
unfolding member table
member_written p = rw table-written
