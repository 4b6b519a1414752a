-- `refusal_tests::bad_modulus` meets its contract: a number of the table is a prime below the largest modulus, and of any other what the refusing
-- constructor answers tells. Assumes nothing.
use mathlib.Core.Path.{◌≡◌, sym, ◌∙◌}
use native.Mathlib.Omega.{arith}
use Rattle.std.specs.Prelude.{ℕ, Bool, not, Option, Some, None, is_some}
use Rattle.definition.specs.Prime.{largest_modulus}
use Rattle.definition.specs.Refusal.{bad_modulus}
use Rattle.field.specs.declared.Field.{Field}
use Rattle.field.specs.Opening.{Opening, prime_taken, refused-modulus, taken_modulus}
use Rattle.primes.proofs.Table.{member-prime}
use Rattle.refusal_tests.proofs.bad_modulus.Goals as goal

opened : (p : ℕ) (answer : Option Field) {refused : Bool} → Opening p answer → is_some answer ≡ not refused → refused ≡ bad_modulus p
opened p (Some f) o e = let taken = (taken_modulus p f o).0 in grind arith
opened p None o e = let refused = refused-modulus p o in grind arith

pub returns-then-not-in_table : goal.returns-then-not-in_table
returns-then-not-in_table c = opened _ _ c.new.ensures c.is_none.ensures

pub returns-else-not-in_table : goal.returns-else-not-in_table
unfolding largest_modulus
returns-else-not-in_table c =
    rw c.if-not-in_table.false
    (sym (prime_taken c.args.p (member-prime _ (sym c.in_table.ensures ∙ c.if-not-in_table.false)) (omega arith)))
