-- `grids::product` meets its contract. Assumes nothing.
use mathlib.Core.Bool.{false≢true}
use Rattle.grids.specs.Parts.{load_needs, product-put, read_blocks, read_clean, read_few, read_values, room-target}
use mathlib.Core.Path.{sym}
use Rattle.grids.proofs.product.Goals as goal

pub load-requires : goal.load-requires
load-requires c = load_needs c.requires.0 c.oriented-first.ensures

pub load-requires-2 : goal.load-requires-2
load-requires-2 c = load_needs c.requires.2 c.oriented-second.ensures

pub multiply-requires : goal.multiply-requires
multiply-requires c =
    let grid = c.oriented-first.ensures in
    let list = c.load.ensures in (
      record {
        modulus = c.requires.0.modulus;
        first = read_blocks c.requires.0 grid list;
        second = read_blocks c.requires.2 c.oriented-second.ensures c.load-2.ensures;
        few = read_few c.requires.0 grid list c.requires.1;
      },
      record { same = λ e. absurd (false≢true e) },
      rw c.if-turned.true at (room-target c.requires.3 c.results-t.ensures),
    )

pub multiply-requires-else-turned : goal.multiply-requires-else-turned
multiply-requires-else-turned c =
    let grid = c.oriented-first.ensures in
    let list = c.load.ensures in (
      record {
        modulus = c.requires.0.modulus;
        first = read_blocks c.requires.0 grid list;
        second = read_blocks c.requires.2 c.oriented-second.ensures c.load-2.ensures;
        few = read_few c.requires.0 grid list c.requires.1;
      },
      record { same = λ e. absurd (false≢true e) },
      rw c.if-turned.false at (room-target c.requires.3 c.results-t.ensures),
    )

pub returns-then-turned : goal.returns-then-turned
returns-then-turned c =
    let grid = c.oriented-first.ensures in
    let more = c.oriented-second.ensures in
    let list = c.load.ensures in
    let second = c.load-2.ensures in
    product-put c.requires.0.modulus _ _ _ _ _ _ _ _ (read_values c.requires.0 grid list) (read_values c.requires.2 more second)
    c.results-t.ensures (sym (rw c.if-turned.true)) (sym (rw c.if-turned.true)) c.multiply.ensures
    (read_clean c.requires.0 grid list) (read_clean c.requires.2 more second)

pub returns-else-turned : goal.returns-else-turned
returns-else-turned c =
    let grid = c.oriented-first.ensures in
    let more = c.oriented-second.ensures in
    let list = c.load.ensures in
    let second = c.load-2.ensures in
    product-put c.requires.0.modulus _ _ _ _ _ _ _ _ (read_values c.requires.0 grid list) (read_values c.requires.2 more second)
    c.results-t.ensures (sym (rw c.if-turned.false)) (sym (rw c.if-turned.false)) c.multiply-else-turned.ensures
    (read_clean c.requires.0 grid list) (read_clean c.requires.2 more second)
