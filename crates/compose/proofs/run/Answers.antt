-- `compose::run` meets its contract. Assumes nothing.
use Rattle.std.proofs.Common.{arith}
use Rattle.compose.specs.Numbers.{weight-1, weight-2, weight-3, weight-4}
use Rattle.compose.proofs.run.Goals as goal

pub returns-in-1 : goal.returns-in-1
returns-in-1 c = rw (weight-1 {route = c.args.route} _ _ _ _ c.in-1.is) c.horner.ensures

pub returns-in-2 : goal.returns-in-2
returns-in-2 c = rw (weight-2 {route = c.args.route} _ _ _ _ c.in-2.is) c.ranged.ensures

pub returns-in-3 : goal.returns-in-3
returns-in-3 c = rw (weight-3 {route = c.args.route} _ _ _ _ c.in-3.is) c.bernstein.ensures

pub returns-in_default : goal.returns-in_default
returns-in_default c =
    rw (weight-4 {route = c.args.route} _ _ _ _ (λ e. omega arith) (λ e. omega arith) (λ e. omega arith)) c.kinoshita_li.ensures
