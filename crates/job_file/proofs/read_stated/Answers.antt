-- `job_file::read_stated` meets its contract. Assumes nothing.
use mathlib.Core.Path.{sym}
use Rattle.job_file.specs.File.{front_read, stated-length}
use Rattle.job_file.proofs.read_stated.Goals as goal

pub slice_bounds-read_list-end-2 : goal.slice_bounds-read_list-end-2
slice_bounds-read_list-end-2 c =
    sym (stated-length c.args.list.now c.requires c.field-count.ensures)

pub read_list-requires : goal.read_list-requires
read_list-requires c =
    rw (stated-length c.args.list.now c.requires c.field-count.ensures, c.field-count.ensures, c.field-at.ensures)
    c.requires.lies

pub returns : goal.returns
returns c =
    front_read c.args.list.now c.requires c.field-count.ensures _ c.field-at.ensures c.read_list.ensures
