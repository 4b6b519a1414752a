-- `buffer::exceeds` meets its contract: the answer for the whole list is that for the places not yet read.
-- Assumes nothing.
use borrow.Author.Rules.{rules}
use native.Mathlib.Omega.{arith}
use mathlib.Core.Path.{◌≡◌, sym, ◌∙◌}
use lib.ListN.{length}
use lib.Seq.{drop-length}
use Rattle.definition.specs.Refusal as refusal
use Rattle.buffer.specs.Bounded.{exceeds-next, exceeds_found}
use Rattle.buffer.proofs.exceeds.Goals as goal

pub returns-then-p-l : goal.returns-then-p-l
returns-then-p-l c = sym (c.loop-i.invariant.1 ∙ exceeds_found _ _ _ c.loop-i-test.true c.if-p-l.true)

pub loop-i-preserved : goal.loop-i-preserved
loop-i-preserved c =
    (search rules, c.loop-i.invariant.1 ∙ exceeds-next _ _ _ c.loop-i-test.true c.if-p-l.false)

pub returns : goal.returns
unfolding refusal.exceeds
returns c =
    let all : c.loop-i.i ≡ length c.args.l.now = omega arith in
    sym (c.loop-i.invariant.1 ∙ rw (all, drop-length))
