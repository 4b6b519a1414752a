-- `job_file::field` meets its contract. Assumes nothing.
use Rattle.definition.specs.Job as job
use Rattle.job_file.proofs.field.Goals as goal

pub returns : goal.returns
unfolding job.field
returns c = c.word.ensures
