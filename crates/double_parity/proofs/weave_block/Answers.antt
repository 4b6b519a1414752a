-- `double_parity::weave_block` meets its contract. Assumes nothing.
use native.Mathlib.Omega.{arith}
use mathlib.Core.Path.{sym, ◌∙◌}
use Rattle.planes.specs.Products as planes
use Rattle.double_parity.specs.Weave.{block_straight, block-turned}
use Rattle.double_parity.proofs.weave_block.Goals as goal

pub weave_column-requires : goal.weave_column-requires
weave_column-requires c =
    let block = block-turned c.args.t c.requires.1 c.if-t.true in
    (c.requires.0, block.0, omega (arith, c.requires.2, block.1))

pub weave_row-requires : goal.weave_row-requires
weave_row-requires c =
    let block = block_straight c.args.t c.requires.1 c.if-t.false in
    (c.requires.0, c.if-t.false, block.0, omega (arith, c.requires.2, block.1))

pub returns-then-t : goal.returns-then-t
unfolding planes.turned
returns-then-t c =
    c.weave_column.ensures ∙ sym (rw ((block-turned c.args.t c.requires.1 c.if-t.true).1, c.if-t.true))

pub returns-else-t : goal.returns-else-t
returns-else-t c =
    c.weave_row.ensures ∙ sym (rw ((block_straight c.args.t c.requires.1 c.if-t.false).1, c.if-t.false))
