-- `route::finish` meets its contract. Assumes nothing.
use native.Mathlib.Nat.{le_of_eq}
use mathlib.Core.Path.{sym, ◌∙◌}
use lib.Seq.{length-take-le}
use Rattle.route.specs.Contract.{copied_segment}
use Rattle.route.proofs.finish.Goals as goal

pub slice_bounds-copy-end-2 : goal.slice_bounds-copy-end-2
slice_bounds-copy-end-2 c = sym (length-take-le _ _ c.requires.0)

pub copy-requires : goal.copy-requires
copy-requires c = le_of_eq (length-take-le _ _ c.requires.0)

pub returns : goal.returns
returns c =
    record {
      output = c.copy.ensures ∙ copied_segment c.args.w.now c.args.out.now c.requires.0;
      work = c.clear.ensures;
    }
