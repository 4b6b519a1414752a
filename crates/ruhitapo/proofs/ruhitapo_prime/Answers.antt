-- `ruhitapo::ruhitapo_prime` meets its contract, which is that of `primes::prime`. Assumes nothing.
use Rattle.ruhitapo.proofs.ruhitapo_prime.Goals as goal

pub returns : goal.returns
returns c = rw (c.into.ensures.0, c.into.ensures.1) c.prime.ensures
