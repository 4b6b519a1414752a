-- What a reader of this product must believe, over plain natural numbers and lists; no proof is needed to read it.
--
--   Lists             sums, lists given by a rule, coefficients, quotients rounded up
--   Substitution      the product, the power and f(g) modulo x^n and p
--   Ranged            route 2: blocks, the power of the inner list, the join of two neighbours
--   Bernstein         route 3: the parts of the outer list by powers modulo p, spreading
--   KinoshitaLi       route 4: products in two variables, Q, Q(-x, y), the even part, the window, the division at order 1
--   Weight            the weight of each route
--   Prime             prime, by divisors, and a Boolean test
--   PrimeTable        the sixteen primes
--   Chain             the chain record
--   Refusal           the number that a call returns
--   Answer            what a call leaves in the buffers lent to it
--   Taylor            the coefficients in powers of (z - c) that decide whether two answers are equal
--   Reversion         the reverse series
--   Running           the running series of a chain after some cycles
--   Calls             what each call promises
--   Text              decimal digits and the two printed forms
--   Job               the job file
pub mod Lists
pub mod Substitution
pub mod Ranged
pub mod Bernstein
pub mod KinoshitaLi
pub mod Weight
pub mod Prime
pub mod PrimeTable
pub mod Chain
pub mod Refusal
pub mod Answer
pub mod Taylor
pub mod Reversion
pub mod Running
pub mod Calls
pub mod Text
pub mod Job
