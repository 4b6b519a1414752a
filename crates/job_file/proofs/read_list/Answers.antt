-- `job_file::read_list` meets its contract: after i turns the first i numbers are written. Assumes nothing.
use native.Mathlib.Nat.{zero-add}
use native.Mathlib.Omega.{arith}
use Rattle.buffer.specs.Filling.{filling_first, filling_next}
use Rattle.definition.specs.Job as job
use Rattle.job_file.specs.File.{list_read, placed}
use Rattle.job_file.proofs.read_list.Goals as goal

pub loop-i-init : goal.loop-i-init
loop-i-init c = filling_first _ _ _ _

pub overflow_mul-i : goal.overflow_mul-i
overflow_mul-i c = omega (arith, placed _ _ _ c.requires c.loop-i.i (omega arith))

pub overflow_add-at : goal.overflow_add-at
overflow_add-at c = omega (arith, placed _ _ _ c.requires c.loop-i.i (omega arith))

pub word-requires : goal.word-requires
word-requires c = placed _ _ _ c.requires c.loop-i.i (omega arith)

pub loop-i-preserved : goal.loop-i-preserved
unfolding job.word_of
loop-i-preserved c = simp zero-add at (filling_next c.loop-i.invariant (omega arith) c.word.ensures)

pub returns : goal.returns
returns c = list_read _ _ c.loop-i.invariant (omega arith)
