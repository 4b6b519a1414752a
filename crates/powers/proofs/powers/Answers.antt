-- `powers::powers` meets its contract: the first power, and its squares. Assumes nothing.
use Rattle.powers.specs.Digits.{power-products-few}
use Rattle.powers.specs.Kept.{first-operands, place_bound, powers-made, powers-none}
use native.Mathlib.Nat.{mul-le-mul}
use native.Mathlib.Omega.{arith}
use Prim.Native.Nat.{◌-◌}
use Rattle.powers.proofs.powers.Goals as goal

pub returns-then-rounds-eq0 : goal.returns-then-rounds-eq0
returns-then-rounds-eq0 c = rw (c.none.ensures, c.if-rounds-eq0.true) (powers-none _ _ _ _)

pub base_power-first-requires : goal.base_power-first-requires
base_power-first-requires c =
    let pre = c.requires in
    (first-operands pre.0 c.if-rounds-eq0.false, pre.1)

pub plus-requires : goal.plus-requires
plus-requires c =
    let pre = c.requires.0 in
    omega (
      arith,
      place_bound pre (c.args.rounds - 1) (omega (arith, pre.few)),
      c.base_power-first.ensures.sum,
      mul-le-mul (power-products-few c.args.b c.requires.1.1) pre.order,
      c.squares-others.ensures.sum,
    )

pub returns : goal.returns
returns c =
    rw c.plus.ensures
    (powers-made (omega (arith, c.if-rounds-eq0.false)) c.base_power-first.ensures c.squares-others.ensures)
