-- The table of primes, and the largest prime that is a modulus.
--
--   Sieve     a test, made to be computed, that a list is the largest primes below a bound
--   Member    whether a number is an entry of a list
--   Table     the table written out; its rule, by that test, stands in proofs/
--   Largest   the largest prime below 2^32; that it is, by that test, stands in proofs/
pub mod Sieve
pub mod Member
pub mod Table
pub mod Largest
