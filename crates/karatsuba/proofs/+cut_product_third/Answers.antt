-- `karatsuba::cut_product` and `karatsuba::third` meet their contracts. Assumes nothing.
use Rattle.std.proofs.Common.{◌∙◌, arith}
use Rattle.algebra.specs.Lists.{length-tabulate}
use Rattle.buffer.specs.Written.{front-sets}
use Rattle.definition.specs.Substitution.{cut_product}
use Rattle.karatsuba.specs.Room.{odd-room, part_room, sum_room, third-done}
use Rattle.karatsuba.specs.Thirds.{thirds_product, thirds_woven}
use Rattle.karatsuba.proofs.+cut_product_third.Goals as goal

pub cut_product-returns-then-n-le128 : goal.cut_product-returns-then-n-le128
unfolding cut_product
cut_product-returns-then-n-le128 t c =
    let given = c.args in
    front-sets given.n given.z.now (cut_product given.p given.n given.x.now given.y.now)
    c.cut_product.ensures (length-tabulate _ _) (omega arith)

pub cut_product-third-requires-2 : goal.cut_product-third-requires-2
cut_product-third-requires-2 t c =
    let first = c.third.auto in (
      omega arith,
      odd-room c.requires c.if-n-le128.false first.x first.u first.y first.v first.z first.r c.third.ensures.left c.third.ensures.right,
    )

pub cut_product-third-requires-3 : goal.cut_product-third-requires-3
cut_product-third-requires-3 t c =
    let first = c.third.auto in
    let second = c.third-2.auto in (
      omega arith,
      sum_room c.requires c.if-n-le128.false (second.x ∙ first.x) (second.u ∙ first.u) (second.y ∙ first.y) (second.v ∙ first.v) (second.z ∙ first.z)
          (second.r ∙ first.r) (c.third-2.ensures.left ∙ c.third.ensures.left) (c.third-2.ensures.right ∙ c.third.ensures.right),
    )

pub cut_product-weave-requires : goal.cut_product-weave-requires
cut_product-weave-requires t c =
    thirds_woven c.requires (c.third-3.auto.r ∙ c.third-2.auto.r ∙ c.third.auto.r) c.third.ensures c.third-2.ensures c.third-3.ensures
    _ (c.third-3.auto.z ∙ c.third-2.auto.z ∙ c.third.auto.z)

pub cut_product-returns : goal.cut_product-returns
cut_product-returns t c =
    thirds_product c.requires (c.third-3.auto.r ∙ c.third-2.auto.r ∙ c.third.auto.r) c.third.ensures c.third-2.ensures c.third-3.ensures
    _ (c.third-3.auto.z ∙ c.third-2.auto.z ∙ c.third.auto.z) c.weave.ensures

pub third-cut_product-requires : goal.third-cut_product-requires
third-cut_product-requires t c = (omega arith, part_room c.requires c.part.ensures c.part-2.ensures)

pub third-returns : goal.third-returns
third-returns t c =
    third-done c.requires c.part.ensures c.part-2.ensures c.cut_product.new.u c.cut_product.new.v c.cut_product.new.z
    c.cut_product.auto.z c.cut_product.ensures
