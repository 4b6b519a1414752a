-- `buffer::clear` meets its contract: after i turns the first i places are zero and the rest is as it was.
-- Assumes nothing.
use borrow.Author.Rules.{rules}
use borrow.Author.Fill.{fill_more}
use native.Mathlib.Omega.{arith}
use mathlib.Core.Path.{◌≡◌}
use Rattle.definition.specs.Answer.{cleared}
use Rattle.buffer.proofs.clear.Goals as goal

pub loop-i-preserved : goal.loop-i-preserved
loop-i-preserved c =
    (search rules, search rules, rw c.loop-i.invariant.2 (fill_more c.loop-i.i 0 c.args.w.now (omega arith)))

pub returns : goal.returns
unfolding cleared
returns c =
    let all : c.loop-i.i ≡ c.args.k = omega arith in
    rw (← all) c.loop-i.invariant.2
