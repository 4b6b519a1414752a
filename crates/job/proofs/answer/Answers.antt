-- `job::answer` meets its contract. Assumes nothing.
use Rattle.job.specs.Solved.{solution_printed}
use Rattle.job.proofs.answer.Goals as goal

pub returns-in-Ok : goal.returns-in-Ok
returns-in-Ok c = solution_printed c.in-Ok.ensures c.print.ensures

pub returns-in-Err : goal.returns-in-Err
returns-in-Err c = solution_printed c.in-Err.ensures (rw c.into.ensures at c.print-in-Err.ensures)
