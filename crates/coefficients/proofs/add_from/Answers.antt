-- `coefficients::add_from` meets its contract: before each turn the places from `first` up to k are written, and none that is still to be
-- read. Assumes nothing.
use borrow.Author.Rules.{rules}
use native.Mathlib.Nat.{add-sub_cancel_left}
use native.Mathlib.Omega.{arith}
use mathlib.Core.Path.{◌≡◌, ◌∙◌}
use Rattle.coefficients.specs.From.{from_first, from_last, from_next}
use Rattle.coefficients.proofs.add_from.Goals as goal

pub loop-k-init : goal.loop-k-init
loop-k-init c =
    let args = c.args in
    (search rules, search rules, search rules, from_first args.p args.n args.a args.b args.t args.first args.w.now)

pub loop-k-preserved : goal.loop-k-preserved
loop-k-preserved c = (
  search rules,
  search rules,
  search rules,
  rw (c.product_coefficient.ensures, add-sub_cancel_left, add-sub_cancel_left, c.loop-k.invariant.3)
      (from_next c.requires.0 c.args.first c.loop-k.k c.loop-k.invariant.0
      c.loop-k-test.true),
)

pub returns : goal.returns
returns c =
    let args = c.args in
    let all : c.loop-k.k ≡ args.n = omega arith in
    c.loop-k.invariant.3 ∙ rw all (from_last args.p args.n args.a args.b args.t args.first args.w.now)
