-- `job_file::word` meets its contract. Assumes nothing.
use Rattle.std.proofs.Common.{arith}
use Rattle.definition.specs.Job as job
use Rattle.definition.specs.Lists.{coefficient}
use Rattle.job_file.proofs.word.Goals as goal

pub returns : goal.returns
unfolding coefficient job.word
returns c = omega (arith, c.from_le_bytes.ensures)
