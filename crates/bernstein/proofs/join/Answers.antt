-- `bernstein::join` meets its contract. Assumes nothing.
use borrow.Author.Rules.{rules}
use Rattle.buffer.specs.Segments.{copy_down}
use Rattle.bernstein.specs.Join.{join_operands, join_moved}
use Rattle.bernstein.proofs.join.Goals as goal

pub multiply_add-places-requires : goal.multiply_add-places-requires
multiply_add-places-requires c = join_operands c.requires

pub copy_part-requires : goal.copy_part-requires
copy_part-requires c = copy_down (search rules) (search rules)

pub returns : goal.returns
returns c =
    join_moved c.requires c.multiply_add-places.ensures c.copy_part.ensures
