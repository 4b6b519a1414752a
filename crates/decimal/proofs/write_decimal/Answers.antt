-- `decimal::write_decimal` meets its contract. Assumes nothing.
use Rattle.std.proofs.Common.{arith, ap, length}
use Rattle.decimal.specs.Digits.{decimal_digit}
use Rattle.decimal.proofs.write_decimal.Goals as goal

pub write_digit-requires : goal.write_digit-requires
write_digit-requires c = omega (arith, c.requires, ap length (decimal_digit c.args.v c.if-v-lt10.true))

pub returns-then-v-lt10 : goal.returns-then-v-lt10
returns-then-v-lt10 c = rw (decimal_digit _ c.if-v-lt10.true) c.write_digit.ensures
