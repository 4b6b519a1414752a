-- `text::write_spaced` meets its contract: after a turn for each of i coefficients these are printed, and the first before them. Assumes nothing.
use Rattle.std.proofs.Common.{add-one, add-zero, arith, length, length-append, get_or, take, take_all, ap, refl, sym, ◌+◌, ◌≡◌, ◌∷◌, ◌++◌}
use Rattle.definition.specs.Text.{decimal, space, spaced}
use Rattle.decimal.specs.Writing.{printed-append}
use Rattle.text.specs.Lengths.{spaced-first, spaced-next, spaced-none, spaced-part}
use Rattle.text.proofs.write_spaced.Goals as goal
use Rattle.text.proofs.write_spaced.Goals.{After-from, After-from-in-loop-coefficient}

-- the first coefficient
first : (c : After-from) → spaced (take 1 c.args.list.now) ≡ decimal c.from.result
first c =
    let list = c.in-Some.ensures.cases.0 in
    rw (list, c.from.ensures) (spaced-first (c.in-Some.first.now ∷ c.in-Some.rest.now) (omega arith))

-- one more
next : (c : After-from-in-loop-coefficient) → spaced (take (c.loop-coefficient.coefficient-index + 1 + 1) c.args.list.now)
    ≡ spaced (take (c.loop-coefficient.coefficient-index + 1) c.args.list.now) ++ space ∷ decimal c.from-in-loop-coefficient.result
next c =
    let i = c.loop-coefficient.coefficient-index in
    let list = c.in-Some.ensures.cases.0 in
    let here : get_or c.args.list.now (i + 1) 0 ≡ c.from-in-loop-coefficient.result =
    rw (list, add-one) (sym c.from-in-loop-coefficient.ensures) in
    rw (← here) (spaced-next c.args.list.now (i + 1) (omega arith) (omega (arith, ap length list)))

pub returns-in_default : goal.returns-in_default
returns-in_default c =
    rw (spaced-none c.args.list.now c.in_default.ensures.cases) (record { ends = sym (add-zero _); holds = λ room. refl })

pub write_decimal-next-requires : goal.write_decimal-next-requires
write_decimal-next-requires c =
    omega (arith, ap length (first (goal.at.write_decimal-next-requires c).After-from), spaced-part 1 c.args.list.now)

pub loop-coefficient-init : goal.loop-coefficient-init
loop-coefficient-init c = rw (first (goal.at.loop-coefficient-init c).After-from) c.write_decimal-next.ensures

pub write_after-next-requires : goal.write_after-next-requires
write_after-next-requires c =
    let i = c.loop-coefficient.coefficient-index in
    let more = simp length-append at (ap length (next (goal.at.write_after-next-requires c).After-from-in-loop-coefficient)) in
    omega (arith, more, spaced-part (i + 1 + 1) c.args.list.now, c.loop-coefficient.invariant.ends)

pub loop-coefficient-preserved : goal.loop-coefficient-preserved
unfolding space
loop-coefficient-preserved c =
    rw (next (goal.at.loop-coefficient-preserved c).After-from-in-loop-coefficient)
    (printed-append _ _ c.loop-coefficient.invariant c.write_after-next.ensures)

pub returns : goal.returns
returns c =
    let list = ap length c.in-Some.ensures.cases.0 in
    rw (take_all (c.loop-coefficient.coefficient-index + 1) c.args.list.now (omega arith)) at c.loop-coefficient.invariant
