-- The largest prime that is a modulus. That it is, stands in proofs/Largest.
--
--   largest_prime      4294967291
use Rattle.std.specs.Prelude.{ℕ}

abbrev pub largest_prime : ℕ
largest_prime = 4294967291
