-- `chain::put_identity` meets its contract. Assumes nothing.
use mathlib.Core.Path.{◌∙◌}
use Rattle.chain.specs.Answered.{identity-written}
use Rattle.chain.proofs.put_identity.Goals as goal

pub returns : goal.returns
returns c = c.put.ensures ∙ identity-written c.args.s.now
