-- `horner::horner_part` meets its contract: before each turn the coefficients from place i on are taken. Assumes nothing.
use native.Mathlib.Omega.{arith}
use Prim.Native.Nat.{suc, ◌-◌, ◌%◌}
use mathlib.Core.Path.{◌≡◌}
use lib.ListN.{length}
use lib.Seq.{sets}
use Rattle.definition.specs.Lists.{coefficient, tabulate}
use Rattle.definition.specs.Substitution.{constant}
use Rattle.horner.proofs.Part.{running-next}
use Rattle.horner.specs.Part.{PartOperands, Running, operands_next, operands-put, running-first, running_last, running-small, top_put}
use Rattle.buffer.specs.Turns.{running-inside, running_place}
use Rattle.horner.proofs.horner_part.Goals as goal
use Rattle.horner.proofs.horner_part.Goals.{After-put_constant, After-running_place-from, In-loop-i}

-- the top coefficient is put before the first turn

put : (c : After-put_constant) → c.put_constant.new.w ≡ sets c.args.w.now (running_place c.args.n c.args.t (length c.args.f.now - 1))
    (tabulate c.args.n (constant (coefficient c.args.f.now (length c.args.f.now - 1) % c.args.p)))
put c =
    top_put c.args.p c.args.n c.args.t c.args.f.now c.args.w.now c.excess-i.ensures c.place-c.ensures c.running_place-top.ensures
    c.put_constant.ensures

operands : (c : After-put_constant) → PartOperands c.args.p c.args.n c.args.f.now c.args.b c.args.t c.put_constant.new.w
operands c = operands-put c.requires (put c)

-- in a turn a coefficient is left

left : (c : In-loop-i)
    → (Running c.args.p c.args.n c.args.f.now c.args.b c.args.t c.put_constant.new.w c.loop-i.w
    (suc (c.loop-i.i - 1)) c.loop-i.weight.places)
left c =
    let e : c.loop-i.i ≡ suc (c.loop-i.i - 1) = omega arith in
    rw e at c.loop-i.invariant

-- where the running value stands before the turn

leaves : (c : After-running_place-from)
    → (c.running_place-from.result ≡ running_place c.args.n c.args.t (suc (c.loop-i.i - 1)))
leaves c =
    let e : c.loop-i.i ≡ suc (c.loop-i.i - 1) = omega arith in
    rw e at c.running_place-from.ensures

pub put_constant-requires : goal.put_constant-requires
put_constant-requires c =
    let place = c.running_place-top.ensures in
    (c.requires.positive, omega (arith, place, (running-inside c.args.n c.args.t c.excess-i.result).1, c.requires.inner.target))

pub loop-i-init : goal.loop-i-init
loop-i-init c =
    rw (c.excess-i.ensures, c.none-weight.ensures) (running-first c.requires (put (goal.at.loop-i-init c).After-put_constant))

pub take_next-places-requires : goal.take_next-places-requires
take_next-places-requires c =
    let begin = operands (goal.at.take_next-places-requires c).After-put_constant in (
      operands_next begin (c.loop-i.i - 1) (leaves (goal.at.take_next-places-requires c).After-running_place-from) c.running_place-to.ensures c.loop-i.invariant.within.size,
      begin.positive,
    )

pub plus-weight-requires : goal.plus-weight-requires
plus-weight-requires c =
    omega (arith, running-small (operands (goal.at.plus-weight-requires c).After-put_constant) (left (goal.at.plus-weight-requires c).In-loop-i), c.take_next-places.ensures.multiplied.places)

pub loop-i-preserved : goal.loop-i-preserved
loop-i-preserved c =
    rw c.plus-weight.ensures
    (running-next (operands (goal.at.loop-i-preserved c).After-put_constant) (c.loop-i.i - 1) (leaves (goal.at.loop-i-preserved c).After-running_place-from) c.running_place-to.ensures (left (goal.at.loop-i-preserved c).In-loop-i)
    c.take_next-places.ensures)

pub returns : goal.returns
returns c =
    let none : c.loop-i.i ≡ 0 = omega arith in
    running_last c.requires (put (goal.at.returns c).After-put_constant) (rw none at c.loop-i.invariant)
