-- The chain record of the code, as the definition has it.
--
--   recorded c   the record of a chain
--   opened a     the record that an opening leaves: zeros where it is refused
use Rattle.std.specs.Prelude.{Result, Ok, Err}
use Rattle.chain.specs.declared.Chain as code
use Rattle.definition.specs.Chain.{Chain}
use Rattle.reason.specs.declared.Refusal.{Refusal}

abbrev pub recorded : code.Chain → Chain
recorded chain = record { modulus = chain.modulus; order = chain.order; done = chain.done }

abbrev pub opened : Result code.Chain Refusal → Chain
opened (Ok chain) = recorded chain
opened (Err refusal) = record { modulus = 0; order = 0; done = 0 }
