-- `buffer::copy` meets its contract: after i turns the first i places of `src` are written.
-- Assumes nothing.
use borrow.Author.Rules.{rules}
use native.Mathlib.Omega.{arith}
use native.Mathlib.Nat.{zero-add}
use mathlib.Core.Path.{◌≡◌, refl, ◌∙◌}
use lib.ListN.{length}
use lib.Seq.{take-length}
use Rattle.buffer.specs.Written.{sets-take, sets-front}
use Rattle.buffer.proofs.copy.Goals as goal

pub loop-i-preserved : goal.loop-i-preserved
loop-i-preserved c =
    (search rules, search rules, rw c.loop-i.invariant.2 (simp zero-add at (sets-take c.args.dst.now 0 c.args.src.now c.loop-i.i 0 (omega arith))))

pub returns : goal.returns
returns c =
    let all : c.loop-i.i ≡ length c.args.src.now = omega arith in
    rw (sets-front _ _ _ refl c.requires) (c.loop-i.invariant.2 ∙ rw (all, take-length))
