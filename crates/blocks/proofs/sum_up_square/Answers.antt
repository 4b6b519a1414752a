-- `blocks::sum_up_square` meets its contract. Assumes nothing.
use borrow.Author.Rules.{rules}
use native.Mathlib.Omega.{arith}
use Rattle.blocks.specs.Blocks.{inside-half, inside-middle, rooms-length, squared_up}
use mathlib.Core.Path.{refl}
use Rattle.blocks.proofs.sum_up_square.Goals as goal

pub sum_up_twice-requires : goal.sum_up_twice-requires
sum_up_twice-requires c = (
  record {
    factors = c.requires.0;
    rooms = rooms-length (search rules) (search rules) c.requires.1;
    inside = inside-half c.excess-from.ensures refl;
  },
  omega (arith, c.excess-from.ensures),
)

pub add_pairs-requires : goal.add_pairs-requires
add_pairs-requires c =
    record {
      factors = c.requires.0;
      rooms = rooms-length (search rules) (search rules) c.requires.1;
      inside = inside-middle refl c.smaller-to.ensures;
    }

pub returns : goal.returns
returns c =
    squared_up c.requires.0 _ _ _ c.excess-from.ensures refl c.smaller-to.ensures c.sum_up_twice.ensures c.add_pairs.ensures
