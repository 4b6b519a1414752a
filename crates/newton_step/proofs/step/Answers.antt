-- `newton_step::step` meets its contract. Assumes nothing.
use borrow.Author.Rules.{rules}
use native.Mathlib.Omega.{arith}
use mathlib.Core.Path.{◌∙◌}
use Rattle.newton_step.specs.Step.{step-constant-free, step-operands, stepped}
use Rattle.newton_step.proofs.step.Goals as goal

pub put_value-requires : goal.put_value-requires
put_value-requires c =
    (step-constant-free c.args.g.now c.args.h.now c.args.w.now c.requires, c.requires.lent)

pub multiply-requires : goal.multiply-requires
multiply-requires c =
    step-operands c.args.g.now c.args.h.now c.args.w.now c.requires (omega arith) (omega arith)
    (c.put_derivative.auto.w ∙ c.put_value.ensures.within.size)

pub returns : goal.returns
returns c =
    stepped c.args.g.now c.args.h.now c.args.w.now c.requires c.put_value.ensures
    c.put_derivative.ensures c.multiply.ensures c.subtract.ensures
