-- `primes::prime` meets its contract: the array of the code is the table written out. Assumes nothing.
use borrow.Author.Tests.{le-leb, lt-leb, ltb-false, ltb-true}
use denote.Bor.{Bor}
use mathlib.Core.Path.{◌≡◌, refl, sym}
use native.Mathlib.Omega.{arith}
use Prim.Native.Nat.{◌<◌, ◌≤◌}
use Rattle.std.specs.Prelude.{ℕ, Option, Some, None}
use Rattle.std.specs.Option.{ok_or, option_copied}
use Rattle.std.specs.Slice.{IsItemAt}
use Rattle.definition.specs.Answer.{answered}
use Rattle.definition.specs.Calls.{Table}
use Rattle.definition.specs.Refusal.{first, table_refusal, test}
use Rattle.reason.specs.Numbers.{number, number_of, value}
use Rattle.reason.specs.declared.Refusal.{Refusal}
use Rattle.primes.specs.Table.{table}
use Rattle.primes.proofs.Table.{table-written}
use Rattle.primes.proofs.prime.Goals as goal

-- what the look-up finds, as the call answers it; r has the number of a refusal of the table
entry : (index : ℕ) (found : Option (Bor ℕ)) (r : Refusal) → number_of r ≡ 14 → IsItemAt table index found
    → Table index (number (ok_or (option_copied found) r)) (value (ok_or (option_copied found) r))
unfolding answered first table table_refusal test
entry index (Some q) r e found =
    let within : index < 16 = ltb-true index 16 (sym found.0) in
    record { refusal = rw (lt-leb 16 index within); entry = rw table-written (found.4 (omega arith) 0) }
entry index None r e found =
    let past : 16 ≤ index = ltb-false index 16 (sym found.0) in
    record { refusal = rw (le-leb 16 index past) e; entry = rw e }

pub returns : goal.returns
unfolding table
returns c = rw (c.ok_or.ensures.value, c.copied.ensures) (entry _ _ _ refl c.get.ensures.lookup)
