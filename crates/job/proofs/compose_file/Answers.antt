-- `job::compose_file` meets its contract. Assumes nothing.
use lib.Seq.{length-take-le}
use mathlib.Core.Path.{sym}
use Rattle.definition.specs.Job.{inner, outer}
use Rattle.job_file.specs.File.{inner-stated, outer-stated}
use Rattle.job.proofs.compose_file.Goals as goal

pub read_stated-m-requires : goal.read_stated-m-requires
read_stated-m-requires c = outer-stated c.requires.0 c.places-outer.ensures

pub read_stated-k-requires : goal.read_stated-k-requires
read_stated-k-requires c = inner-stated c.requires.0 c.places-inner.ensures

pub slice_bounds-outer-end : goal.slice_bounds-outer-end
slice_bounds-outer-end c = c.read_stated-m.ensures.fits

pub slice_bounds-compose_lists-end : goal.slice_bounds-compose_lists-end
slice_bounds-compose_lists-end c = sym (length-take-le _ _ c.read_stated-m.ensures.fits)

pub slice_bounds-inner-end : goal.slice_bounds-inner-end
slice_bounds-inner-end c = c.read_stated-k.ensures.fits

pub slice_bounds-compose_lists-end-2 : goal.slice_bounds-compose_lists-end-2
slice_bounds-compose_lists-end-2 c = sym (length-take-le _ _ c.read_stated-k.ensures.fits)

pub compose_lists-requires : goal.compose_lists-requires
unfolding inner outer
compose_lists-requires c =
    let pre = c.requires in
    record {
      accepted = pre.0;
      outer-list = c.read_stated-m.ensures.first;
      inner-list = c.read_stated-k.ensures.first;
      places = pre.1;
    }
