-- `grids::load` meets its contract: the first l blocks are read. Assumes nothing.
use borrow.Author.Rules.{rules}
use native.Mathlib.Omega.{arith}
use Prim.Native.Nat.{◌+◌, ◌*◌, ◌<◌, ◌≤◌}
use lib.ListN.{length}
use Rattle.planes.specs.Rows.{plane-first, plane-fits, plane-next}
use mathlib.Core.Path.{◌≡◌, refl}
use Rattle.grids.proofs.load.Goals as goal
use Rattle.grids.proofs.load.Goals.{At-loop-l}

room : (c : At-loop-l) → c.loop-l.l < c.args.g.count
    → 8 + c.loop-l.l * (c.args.g.length + 8) + (c.args.g.length + 8) ≤ length c.args.into.now
room c below = plane-fits 8 (c.args.g.length + 8) c.args.g.count c.loop-l.l c.requires.2 below

pub loop-l-init : goal.loop-l-init
loop-l-init c = (omega arith, refl, plane-first _ _ _ _)

pub overflow_mul-l : goal.overflow_mul-l
overflow_mul-l c = record { fits = omega (arith, c.requires.1.begins _ c.loop-l-test.true) }

pub overflow_add-g : goal.overflow_add-g
overflow_add-g c = record { fits = c.requires.1.begins _ c.loop-l-test.true }

pub overflow_add-g-in-loop-l : goal.overflow_add-g-in-loop-l
overflow_add-g-in-loop-l c = record { fits = omega (arith, room (goal.at.overflow_add-g-in-loop-l c).At-loop-l c.loop-l-test.true) }

pub overflow_mul-l-in-loop-l : goal.overflow_mul-l-in-loop-l
overflow_mul-l-in-loop-l c = record { fits = omega (arith, room (goal.at.overflow_mul-l-in-loop-l c).At-loop-l c.loop-l-test.true) }

pub overflow_add-l : goal.overflow_add-l
overflow_add-l c = record { fits = omega (arith, room (goal.at.overflow_add-l c).At-loop-l c.loop-l-test.true) }

pub load_block-requires : goal.load_block-requires
load_block-requires c = (
  c.requires.0,
  λ k h. c.requires.1.inside _ k c.loop-l-test.true h,
  omega (arith, room (goal.at.load_block-requires c).At-loop-l c.loop-l-test.true, c.loop-l.invariant.1),
)

pub loop-l-smaller : goal.loop-l-smaller
loop-l-smaller c = omega (arith, c.loop-l-test.true)

pub loop-l-preserved : goal.loop-l-preserved
loop-l-preserved c =
    (omega (arith, c.loop-l-test.true), search rules, plane-next _ _ _ _ _ c.loop-l.invariant.2 c.load_block.ensures)

pub returns : goal.returns
returns c =
    let all : c.loop-l.l ≡ c.args.g.count = omega (arith, c.loop-l.invariant.0, c.loop-l-test.false) in
    rw all at c.loop-l.invariant.2
