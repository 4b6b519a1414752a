-- `job_file::read_list` meets its contract: after i turns the first i numbers are written. Assumes nothing.
use lib.ListN.{length}
use Rattle.buffer.specs.Filling.{Filling}
use Rattle.definition.specs.Job as job
use Rattle.job_file.proofs.read_list.Given as goal

abbrev pub invariant-loop-i : goal.invariant-loop-i
invariant-loop-i l = Filling (job.word_of l.file l.at) 0 (length l.initial.list) l.initial.list l.list l.i
