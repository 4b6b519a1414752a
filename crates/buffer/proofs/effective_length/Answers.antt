-- `buffer::effective_length` meets its contract: the effective length is that of the places not yet read. Assumes nothing.
use borrow.Author.Rules.{rules}
use native.Mathlib.Omega.{arith}
use Prim.Native.Nat.{suc, ◌-◌}
use mathlib.Core.Path.{◌≡◌, sym, ap, ◌∙◌}
use Rattle.algebra.specs.Effective.{effective_found, effective_next}
use Rattle.definition.specs.Lists.{coefficient, effective_below, effective_length}
use Rattle.buffer.proofs.effective_length.Goals as goal

pub loop-k-init : goal.loop-k-init
unfolding effective_length
loop-k-init c = search rules

pub returns-then-l-k-ne0 : goal.returns-then-l-k-ne0
unfolding coefficient
returns-then-l-k-ne0 c =
    let one_less : c.loop-k.k ≡ suc (c.loop-k.k - 1) = omega arith in
    sym (c.loop-k.invariant.1 ∙ ap (effective_below _) one_less ∙ effective_found _ _ c.if-l-k-ne0.true ∙ sym one_less)

pub loop-k-preserved : goal.loop-k-preserved
unfolding coefficient
loop-k-preserved c =
    let one_less : c.loop-k.k ≡ suc (c.loop-k.k - 1) = omega arith in
    (search rules, c.loop-k.invariant.1 ∙ ap (effective_below _) one_less ∙ effective_next _ _ c.if-l-k-ne0.false)

pub returns : goal.returns
unfolding effective_below
returns c =
    let none : c.loop-k.k ≡ 0 = omega arith in
    sym (c.loop-k.invariant.1 ∙ ap (effective_below _) none)
