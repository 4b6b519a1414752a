-- `block_product::tile` meets its contract. Assumes nothing.
use borrow.Author.Rules.{rules}
use Rattle.block_product.specs.Results.{tile_done}
use native.Mathlib.Nat.{le_refl}
use Rattle.summed_product.specs.Sums.{sums-small}
use mathlib.Core.Path.{refl}
use Rattle.block_product.proofs.tile.Goals as goal

pub remainders-requires : goal.remainders-requires
remainders-requires c =
    (c.requires.0.modulus, sums-small c.sum_up.ensures (le_refl _) (search rules) (search rules), search rules)

pub returns : goal.returns
returns c = tile_done _ _ _ _ _ _ c.sum_up.ensures refl c.remainders.ensures
