-- `reversion::newton` meets its contract. Assumes nothing.
use Rattle.std.proofs.Common.{ℕ, ◌+◌, ◌*◌, ◌/◌, ◌<◌, length, length-take-le, arith}
use Rattle.reversion.specs.Iteration.{half-reversible, reversed_start, reversed_step, step-lent}
use Rattle.reversion.proofs.+newton.Goals as goal

-- an order n above 2, and the order of the call
several : {n : ℕ} → 2 < n → 1 < n / 2 + 1
several h = omega arith

fits : {n : ℕ} → 2 < n → n / 2 + 1 < n
fits h = omega arith

far : {n : ℕ} → 2 < n → n < 2 * (n / 2 + 1)
far h = omega arith

pub start-requires : goal.start-requires
start-requires t c = (c.requires.prime.above-one, c.requires.lent.positive)

pub returns-then-n-le2 : goal.returns-then-n-le2
returns-then-n-le2 t c =
    reversed_start c.args.g.now c.args.h.now c.args.w.now c.requires (omega (arith, c.if-n-le2.true)) c.start.ensures

pub newton-requires : goal.newton-requires
newton-requires t c =
    let above : 2 < length c.args.h.now = omega (arith, c.if-n-le2.false) in
    let size = length-take-le (length c.args.h.now / 2 + 1) c.args.h.now (omega (arith, fits above)) in (
      omega (arith, fits above, size),
      half-reversible c.args.g.now c.args.h.now c.args.w.now c.requires (several above) (fits above) (far above),
    )

pub step-requires : goal.step-requires
step-requires t c =
    let above : 2 < length c.args.h.now = omega (arith, c.if-n-le2.false) in
    step-lent c.args.g.now c.args.h.now c.args.w.now c.requires (several above) (fits above) (far above) c.newton.ensures

pub returns : goal.returns
returns t c =
    let above : 2 < length c.args.h.now = omega (arith, c.if-n-le2.false) in
    reversed_step c.args.g.now c.args.h.now c.args.w.now c.requires (several above) (fits above) (far above) c.newton.ensures c.step.ensures
