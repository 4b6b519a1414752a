-- `product::multiply` meets its contract: the product is added to zeros. Assumes nothing.
use mathlib.Core.Path.{◌∙◌}
use Rattle.product.specs.Single.{added-zeros, operands-length}
use Rattle.product.proofs.multiply.Goals as goal

pub multiply_add-requires : goal.multiply_add-requires
multiply_add-requires c =
    operands-length c.clear_part.auto.w c.requires

pub returns : goal.returns
returns c =
    record {
      written = c.multiply_add.ensures.written ∙ rw c.clear_part.ensures (added-zeros c.requires);
      places = c.multiply_add.ensures.places;
    }
