-- `parity::weave` meets its contract: each turn reads three places and writes two. Assumes nothing.
use Prim.Native.Nat.{◌-◌}
use Rattle.parity.specs.Weave.{Weaving}
use Rattle.parity.proofs.weave.Given as goal

abbrev pub invariant-loop-i : goal.invariant-loop-i
invariant-loop-i l = Weaving l.p l.n l.even l.a l.odd l.b l.sums l.c l.at l.initial.z l.z l.before l.i

abbrev pub decreases-loop-i : goal.decreases-loop-i
decreases-loop-i l = l.half - l.i
