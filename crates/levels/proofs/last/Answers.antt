-- `levels::last` meets its contract. Assumes nothing.
use native.Mathlib.Omega.{arith}
use native.Mathlib.Nat.{mul-one}
use Rattle.levels.specs.Level.{last_level, last_room}
use Rattle.levels.proofs.last.Goals as goal

pub numerator-requires : goal.numerator-requires
numerator-requires c = omega (arith, last_room c.requires)

pub divide-requires : goal.divide-requires
divide-requires c =
    let lent = c.requires in
    (lent.modulus, omega (arith, lent.outer), omega (arith, last_room lent))

pub window-requires : goal.window-requires
window-requires c =
    let lent = c.requires in
    (omega (arith, lent.low), rw mul-one (omega (arith, last_room lent)))

pub returns : goal.returns
returns c =
    rw c.window.ensures
    (last_level c.requires (rw c.numerator.ensures at c.divide.ensures))
