-- `schoolbook::cut_product` meets its contract. Assumes nothing.
use borrow.Author.Rules.{rules}
use lib.Seq.{sets}
use Rattle.schoolbook.specs.ByRows.{cut-pair, cut-remainders, cut_small}
use Rattle.summed_product.specs.Zeros.{zeros-replicate}
use mathlib.Core.Path.{ap, ◌∙◌}
use Rattle.schoolbook.proofs.cut_product.Goals as goal

-- src/lib.rt:32:23

-- src/lib.rt:32:5

-- src/lib.rt:33:23

-- src/lib.rt:33:5

-- src/lib.rt:35:36

-- src/lib.rt:35:49

-- src/lib.rt:35:69

-- src/lib.rt:35:80

-- src/lib.rt:35:5

-- src/lib.rt:36:33

-- src/lib.rt:36:40

-- src/lib.rt:36:5

-- src/lib.rt:24:1

-- src/lib.rt:24:1

pub add_product-requires : goal.add_product-requires
add_product-requires c =
    rw (c.widen.ensures, c.widen-2.ensures)
    (cut-pair c.requires.0 c.requires.1 (zeros-replicate 144) (zeros-replicate 144) (zeros-replicate 128) (zeros-replicate 128) _ _)

pub remainders-requires : goal.remainders-requires
remainders-requires c = (
  c.requires.0,
  cut_small c.requires.0 c.requires.1 (zeros-replicate 144) (zeros-replicate 144) (zeros-replicate 128) (zeros-replicate 128) _ _
      (rw (c.widen.ensures, c.widen-2.ensures) at c.add_product.ensures) (search rules) (search rules),
  c.requires.4,
)

pub returns : goal.returns
returns c =
    c.remainders.ensures
    ∙ ap (sets _ 0)
    (cut-remainders c.requires.0 c.requires.1 (zeros-replicate 144) (zeros-replicate 144) (zeros-replicate 128) (zeros-replicate 128) _ _
    (rw (c.widen.ensures, c.widen-2.ensures) at c.add_product.ensures))
