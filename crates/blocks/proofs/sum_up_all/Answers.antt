-- `blocks::sum_up_all` meets its contract. Assumes nothing.
use borrow.Author.Rules.{rules}
use Rattle.blocks.specs.Blocks.{inside_all, rooms-length, summed_up}
use Rattle.blocks.proofs.sum_up_all.Goals as goal

pub add_pairs-requires : goal.add_pairs-requires
add_pairs-requires c =
    record {
      factors = c.requires.0;
      rooms = rooms-length (search rules) (search rules) c.requires.1;
      inside = inside_all c.excess-from.ensures c.smaller-to.ensures;
    }

pub returns : goal.returns
returns c =
    summed_up c.requires.0 _ _ _ c.excess-from.ensures c.smaller-to.ensures c.clear.ensures c.add_pairs.ensures
