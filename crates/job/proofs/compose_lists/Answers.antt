-- `job::compose_lists` meets its contract. Assumes nothing.
use borrow.Author.Rules.{rules}
use native.Mathlib.Omega.{arith}
use Prim.Native.Nat.{◌≤◌}
use lib.ListN.{length}
use lib.Seq.{length-take-le}
use mathlib.Core.Path.{sym, ◌∙◌}
use Rattle.job_file.specs.File.{whole}
use Rattle.job.specs.Run.{composition, lists-few, work-fits}
use Rattle.job.proofs.compose_lists.Goals as goal
use Rattle.job.proofs.compose_lists.Goals.{After-work_places-end}

enough : (c : After-work_places-end) → c.work_places-end.result ≤ length c.work_places-work.result
enough c = work-fits c.requires c.work_places-work.result c.work_places-end.ensures c.work_places-work.ensures

pub work_places-end-requires : goal.work_places-end-requires
work_places-end-requires c =
    let few = lists-few c.requires in
    (omega arith, omega arith)

pub field-requires : goal.field-requires
field-requires c = (whole c.requires.accepted, search rules)

pub field-requires-2 : goal.field-requires-2
field-requires-2 c = (whole c.requires.accepted, search rules)

pub slice_bounds-work-end : goal.slice_bounds-work-end
slice_bounds-work-end c = enough (goal.at.slice_bounds-work-end c).After-work_places-end

pub slice_bounds-compose-end : goal.slice_bounds-compose-end
slice_bounds-compose-end c = sym (length-take-le _ _ (enough (goal.at.slice_bounds-compose-end c).After-work_places-end))

pub returns : goal.returns
returns c =
    let size = length-take-le _ _ (enough (goal.at.returns c).After-work_places-end) ∙ c.work_places-end.ensures in
    composition c.requires c.field.ensures c.field-2.ensures size c.compose.ensures
