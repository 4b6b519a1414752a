-- `Field::new` meets its contract: the two tests are those of `bad_modulus`. Assumes nothing.
use borrow.Author.Tests.{le-ltb, lt-ltb}
use native.Mathlib.Omega.{arith}
use mathlib.Core.Path.{sym, ◌∙◌}
use Prim.Native.Nat.{◌<◌, ◌≤◌}
use Rattle.algebra.specs.Prime.{prime-positive, prime_of_test}
use Rattle.definition.specs.Prime.{largest_modulus}
use Rattle.definition.specs.Refusal.{bad_modulus}
use Rattle.field.specs.Opening.{opening-refused, opening_of}
use Rattle.field.proofs.Field.new.Goals.{else-p-le-LARGEST-via-then-p-le-LARGEST+else-is_prime, else-p-le-LARGEST-via-else-p-le-LARGEST}
use Rattle.field.proofs.Field.new.Goals as goal

pub invariant_of-result : goal.invariant_of-result
invariant_of-result c = record { positive = prime-positive (prime_of_test _ (sym c.is_prime.ensures ∙ c.if-is_prime.true)) }

pub returns-then-is_prime : goal.returns-then-is_prime
unfolding bad_modulus largest_modulus
returns-then-is_prime c =
    let within : c.args.p ≤ largest_modulus = omega (arith, c.if-p-le-LARGEST.true) in
    opening_of _ (rw (le-ltb _ _ within, ← c.is_prime.ensures, c.if-is_prime.true))

pub returns-else-p-le-LARGEST : goal.returns-else-p-le-LARGEST
unfolding bad_modulus largest_modulus
returns-else-p-le-LARGEST c =
    elim c.else-p-le-LARGEST.branch [
      | else-p-le-LARGEST-via-then-p-le-LARGEST+else-is_prime w ↦
          let within : c.args.p ≤ largest_modulus = omega (arith, w.if-p-le-LARGEST.true) in
          opening-refused _ (rw (le-ltb _ _ within, ← w.is_prime.ensures, w.if-is_prime.false))
      | else-p-le-LARGEST-via-else-p-le-LARGEST w ↦
          let above : largest_modulus < c.args.p = omega (arith, w.if-p-le-LARGEST.false) in
          opening-refused _ (rw (lt-ltb _ _ above))
    ]
