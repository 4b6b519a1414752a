-- The numbers of the refusals, as the table of 01 has them, and what an answer stands for.
--
--   number_of r   the number of a refusal
--   number a      the number of an answer: 0 where the call is accepted
--   value a       what an answer returns beside its number: 0 after a refusal
--   number_of-positive refused   no refusal has the number 0
--   numbered      a test with its number, `test` of the definitions by another name: `rt ci` takes an attribute that names `test` for a Rust test
-- Assumes nothing.
use Rattle.std.specs.Prelude.{ℕ, ◌<◌, ◌≢◌, Result, Ok, Err}
use Rattle.std.proofs.Common.{arith}
pub use Rattle.definition.specs.Refusal.{test as numbered}
use Rattle.reason.specs.declared.Refusal.{Refusal}
use Rattle.reason.specs.declared.Refusal.TheVariants.{
  Block,
  Coefficient,
  Constant,
  Cycles,
  FileShort,
  FileSize,
  Index,
  InnerLength,
  Irreversible,
  Modulus,
  Order,
  OuterLength,
  Places,
  Route,
  Work,
}

abbrev pub number_of : Refusal → ℕ
number_of Route = 1
number_of Modulus = 2
number_of Order = 3
number_of OuterLength = 4
number_of InnerLength = 5
number_of Places = 6
number_of Work = 7
number_of Coefficient = 8
number_of Irreversible = 9
number_of Constant = 10
number_of Cycles = 11
number_of FileSize = 12
number_of FileShort = 13
number_of Index = 14
number_of Block = 15

abbrev pub number : {A : Type 0} → Result A Refusal → ℕ
number (Ok a) = 0
number (Err r) = number_of r

abbrev pub value : Result ℕ Refusal → ℕ
value (Ok v) = v
value (Err r) = 0

pub number_of-positive : (r : Refusal) → 0 < number_of r
number_of-positive r = search arith

pub refused : (r : Refusal) → number_of r ≢ 0
refused r none = omega (arith, number_of-positive r)
