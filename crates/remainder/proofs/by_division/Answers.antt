-- `remainder::by_division` meets its contract: after k turns the first k places are written. Assumes nothing.
use Rattle.std.proofs.Common.{◌%◌, ◌^◌, ◌<◌, refl, ◌∙◌, mod-lt, zero-add, arith, rules}
use Rattle.buffer.specs.Filling.{filling_first, filling_last, filling_next}
use Rattle.residue.specs.Residue.{product-below}
use Rattle.definition.specs.Lists.{coefficient}
use Rattle.remainder.specs.Division.{second-power}
use Rattle.rows.specs.Sums.{remainder_at, remainder_list}
use Rattle.remainder.proofs.by_division.Goals as goal
use Rattle.remainder.proofs.by_division.Goals.{After-wide-m}

-- 2^32 modulo m has 32 bits

first : (c : After-wide-m) → 2 ^ 32 % c.wide-m.result < 2 ^ 32
first c = omega (arith, mod-lt (2 ^ 32) {m = c.wide-m.result} (omega arith))

pub overflow_mul-second : goal.overflow_mul-second
overflow_mul-second c = omega (arith, product-below (first c) (first c))

pub loop-k-init : goal.loop-k-init
loop-k-init c = filling_first _ _ _ _

pub folded-requires : goal.folded-requires
folded-requires c =
    let small = c.requires.1 in (
      search rules,
      search rules,
      refl,
      second-power _,
      small.high-below _ c.loop-k-test.true,
      rw c.low_part.ensures (small.low_below _ c.loop-k-test.true),
    )

pub loop-k-preserved : goal.loop-k-preserved
unfolding remainder_at coefficient
loop-k-preserved c =
    rw zero-add at (filling_next c.loop-k.invariant c.loop-k-test.true
    (c.folded.ensures ∙ rw (c.wide-m.ensures, c.low_part.ensures)))

pub returns : goal.returns
unfolding remainder_list
returns c = filling_last c.loop-k.invariant (omega arith)
