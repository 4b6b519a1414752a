-- `double_parity::weave` meets its contract: the first l blocks are written. Assumes nothing.
use borrow.Author.Rules.{rules}
use native.Mathlib.Omega.{arith}
use Prim.Native.Nat.{◌+◌, ◌*◌, ◌<◌, ◌≤◌}
use lib.ListN.{length}
use lib.Seq.{sets}
use mathlib.Core.Path.{◌≡◌, refl, ap, ◌∙◌}
use Rattle.definition.specs.KinoshitaLi.{plane}
use Rattle.grids.specs.Parts.{facing}
use Rattle.planes.specs.Rows.{plane-first}
use Rattle.double_parity.specs.Weave.{block-fits, block-next, woven-packed, woven_plane}
use Rattle.double_parity.proofs.weave.Goals as goal
use Rattle.double_parity.proofs.weave.Goals.{At-loop-l}

room : (c : At-loop-l) → c.loop-l.l < c.results-b.result.count
    → c.loop-l.l * c.results-b.result.length + c.results-b.result.length ≤ length c.args.z.now
room c below = block-fits c.args.t c.requires.1 c.results-b.ensures below

pub loop-l-init : goal.loop-l-init
loop-l-init c = (omega arith, refl, plane-first _ _ _ _)

pub overflow_mul-l : goal.overflow_mul-l
overflow_mul-l c =
    record { fits = omega (arith, room (goal.at.overflow_mul-l c).At-loop-l c.loop-l-test.true, c.well_formed) }

pub weave_block-requires : goal.weave_block-requires
weave_block-requires c = (
  c.requires.0,
  rw c.results-b.ensures at c.loop-l-test.true,
  omega (arith, room (goal.at.weave_block-requires c).At-loop-l c.loop-l-test.true, c.loop-l.invariant.1, ap (λ b. b.length) c.results-b.ensures),
)

pub loop-l-smaller : goal.loop-l-smaller
loop-l-smaller c = omega (arith, c.loop-l-test.true)

pub loop-l-preserved : goal.loop-l-preserved
loop-l-preserved c =
    (omega (arith, c.loop-l-test.true), search rules, block-next c.args.t _ c.results-b.ensures _ _ c.loop-l.invariant.2 c.weave_block.ensures)

pub returns : goal.returns
returns c =
    let all : c.loop-l.l ≡ c.results-b.result.count = omega (arith, c.loop-l.invariant.0, c.loop-l-test.false) in
    let args = c.args in
    let W = woven_plane args.p args.t args.even.now args.odd.now args.sums.now in
    rw all at c.loop-l.invariant.2
    ∙ ap (sets args.z.now 0)
    (ap (λ b. plane b.length b.count (facing args.t.turned W)) c.results-b.ensures ∙ woven-packed args.t W)
