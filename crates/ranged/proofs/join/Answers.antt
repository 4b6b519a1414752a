-- `ranged::join` meets its contract: the product is made, then added. Assumes nothing.
use Rattle.ranged.specs.Neighbours.{join_made}
use Rattle.ranged.proofs.join.Goals as goal

pub returns : goal.returns
returns c =
    join_made c.requires c.multiply-places.ensures c.add_part.ensures
