-- `horner::horner_part` meets its contract: before each turn the coefficients from place i on are taken. Assumes nothing.
use Rattle.horner.specs.Part.{Running}
use Rattle.horner.proofs.horner_part.Given as goal

abbrev pub invariant-loop-i : goal.invariant-loop-i
invariant-loop-i l = Running l.p l.n l.f l.b l.t l.initial.w l.w l.i l.weight.places

abbrev pub decreases-loop-i : goal.decreases-loop-i
decreases-loop-i l = l.i
