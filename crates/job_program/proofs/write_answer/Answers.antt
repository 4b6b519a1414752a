-- `job_program::write_answer` is safe: the answer lies in the text. Assumes nothing.
use Rattle.std.proofs.Common.{sym, length-take-le}
use Rattle.job.specs.Solved.{answer-within}
use Rattle.job_program.proofs.write_answer.Goals as goal

pub slice_bounds-text-end : goal.slice_bounds-text-end
slice_bounds-text-end g c = answer-within c.answer-count.ensures

pub slice_bounds-write_all-end : goal.slice_bounds-write_all-end
slice_bounds-write_all-end g c = sym (length-take-le _ _ (answer-within c.answer-count.ensures))
