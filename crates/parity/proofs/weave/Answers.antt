-- `parity::weave` meets its contract: each turn reads three places and writes two. Assumes nothing.
use native.Mathlib.Omega.{arith}
use Prim.Native.Nat.{◌/◌}
use lib.ListN.{length-set}
use mathlib.Core.Path.{◌≡◌}
use Rattle.definition.specs.Lists.{coefficient}
use Rattle.parity.specs.Weave.{weaving_before, weaving_even, weaving_first, weaving_next, weaving_odd}
use Rattle.parity.proofs.weave.Goals as goal

pub loop-i-init : goal.loop-i-init
loop-i-init c = weaving_first _ _ _ _ _ _ _ _ _ _

pub sum-first-requires : goal.sum-first-requires
unfolding coefficient
sum-first-requires c =
    let ready = c.requires in
    (ready.even-small _ (omega arith), weaving_before c.loop-i.invariant ready)

pub cross-second-requires : goal.cross-second-requires
unfolding coefficient
cross-second-requires c =
    let ready = c.requires in
    (ready.fold_small _ (omega arith), ready.even-small _ (omega arith), ready.odd-small _ (omega arith))

pub bounds-z-at-in-loop-i : goal.bounds-z-at-in-loop-i
bounds-z-at-in-loop-i c = simp length-set (omega arith)

pub loop-i-preserved : goal.loop-i-preserved
loop-i-preserved c =
    weaving_next c.loop-i.invariant c.sum-first.ensures (omega arith) c.cross-second.ensures

pub sum-requires : goal.sum-requires
unfolding coefficient
sum-requires c =
    let ready = c.requires in
    (ready.even-small _ (omega arith), weaving_before c.loop-i.invariant ready)

pub returns-then-half-n : goal.returns-then-half-n
returns-then-half-n c =
    let all : c.loop-i.i ≡ c.args.n / 2 = omega arith in
    weaving_odd (rw all at c.loop-i.invariant) c.sum.ensures (omega arith)

pub returns-else-half-n : goal.returns-else-half-n
returns-else-half-n c =
    weaving_even c.loop-i.invariant (omega arith)
