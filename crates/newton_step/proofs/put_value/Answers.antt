-- `newton_step::put_value` meets its contract: both routes have the contract that `value-put` takes. Assumes nothing.
use borrow.Author.Rules.{rules}
use native.Mathlib.Omega.{arith}
use Prim.Native.Nat.{ℕ}
use lib.ListN.{length, take}
use lib.Seq.{length-take-le}
use mathlib.Core.List.{List}
use mathlib.Core.Path.{sym}
use Rattle.newton_step.specs.Step.{ValuePut, value_lent, value-put}
use Rattle.route.specs.Contract.{Lent, Route}
use Rattle.newton_step.proofs.put_value.Goals as goal
use Rattle.newton_step.proofs.put_value.Goals.{After-smaller-m}

lent : (c : After-smaller-m) → Lent c.args.p (length c.args.h.now) (length (take c.smaller-m.result c.args.g.now)) (length c.args.w.now)
lent c = value_lent c.args.g.now c.args.h.now c.args.w.now c.requires.1 c.smaller-m.result

put : (c : After-smaller-m) → {after : List ℕ} {weight result : ℕ} → Route c.args.p (length c.args.h.now) (take c.smaller-m.result c.args.g.now) c.args.h.now weight c.args.w.now after result
    → ValuePut c.args.p c.args.g.now c.args.h.now c.args.w.now after
put c = value-put c.args.g.now c.args.h.now c.args.w.now c.requires.1 c.smaller-m.result c.requires.0 c.smaller-m.ensures

pub slice_bounds-f-end : goal.slice_bounds-f-end
slice_bounds-f-end c = sym (length-take-le _ _ (omega (arith, c.smaller-m.ensures)))

pub horner-requires : goal.horner-requires
horner-requires c = lent (goal.at.horner-requires c).After-smaller-m

pub returns-then-n-le-LARGEST_BY_HORNER : goal.returns-then-n-le-LARGEST_BY_HORNER
returns-then-n-le-LARGEST_BY_HORNER c =
    put (goal.at.returns-then-n-le-LARGEST_BY_HORNER c).After-smaller-m c.horner.ensures

pub kinoshita_li-requires : goal.kinoshita_li-requires
kinoshita_li-requires c = lent (goal.at.kinoshita_li-requires c).After-smaller-m

pub returns : goal.returns
returns c =
    put (goal.at.returns c).After-smaller-m c.kinoshita_li.ensures
