-- `division::inverse` meets its contract. The loop's invariant: below k the inverse is written. The measure is what is left of m.
-- Assumes nothing.
use native.Mathlib.Omega.{arith}
use mathlib.Core.Path.{◌≡◌}
use Rattle.division.specs.Doubling.{inverted_first, inverted_next, inverted_none}
use Rattle.buffer.specs.Within.{within_refl}
use Rattle.division.proofs.inverse.Goals as goal

pub returns-then-m-eq0 : goal.returns-then-m-eq0
returns-then-m-eq0 c = inverted_none _ c.if-m-eq0.true

pub loop-k-init : goal.loop-k-init
loop-k-init c = (
  omega arith,
  omega arith,
  record { inverse = (inverted_first c.requires (omega arith)).inverse; within = within_refl _ _ _ },
)

pub double-k-requires : goal.double-k-requires
double-k-requires c =
    let pre = c.requires in
    let known = inverted_next (inverted_first pre (omega arith)) c.loop-k.invariant.2 in
    record {
      modulus = pre.modulus;
      order = pre.order;
      places = omega (arith, pre.places, known.within.size);
      positive = omega arith;
      below = omega arith;
      inverse = known.inverse;
    }

pub loop-k-preserved : goal.loop-k-preserved
loop-k-preserved c = (
  omega arith,
  omega arith,
  inverted_next c.loop-k.invariant.2 c.double-k.ensures.2,
)

pub shape_of-w : goal.shape_of-w
shape_of-w c =
    (inverted_next (inverted_first c.requires (omega arith)) c.loop-k.invariant.2).within.size

pub returns : goal.returns
returns c =
    let all : c.loop-k.k ≡ c.args.m = omega arith in
    rw all at (inverted_next (inverted_first c.requires (omega arith)) c.loop-k.invariant.2)
