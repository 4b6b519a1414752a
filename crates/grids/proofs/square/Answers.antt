-- `grids::square` meets its contract. Assumes nothing.
use Rattle.grids.specs.Parts.{load_needs, read_blocks, read_clean, read_few, read_values, square-put, square-target}
use mathlib.Core.Path.{refl}
use Rattle.grids.proofs.square.Goals as goal

pub load-requires : goal.load-requires
load-requires c = load_needs c.requires.0 c.oriented-part.ensures

pub multiply-requires : goal.multiply-requires
multiply-requires c =
    let grid = c.oriented-part.ensures in
    let list = c.load.ensures in (
      record {
        modulus = c.requires.0.modulus;
        first = read_blocks c.requires.0 grid list;
        second = read_blocks c.requires.0 grid list;
        few = read_few c.requires.0 grid list c.requires.1;
      },
      record { same = λ e. (refl, refl) },
      square-target c.requires.2 c.results.ensures,
    )

pub returns : goal.returns
returns c =
    let grid = c.oriented-part.ensures in
    let list = c.load.ensures in
    square-put c.requires.0.modulus _ _ _ _ (read_values c.requires.0 grid list) c.results.ensures c.multiply.ensures
    (read_clean c.requires.0 grid list)
