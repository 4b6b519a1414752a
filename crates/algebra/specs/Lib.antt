-- Laws, and no code: what the proofs of the routes, of reversion and of the chains cite. Each law is stated once over a structure and used
-- for the natural numbers, for the residues modulo p, for series over these, and for series over series.
--
-- Structures
--   Semiring Negation Power Sum Natural Domain   commutative semirings, negation, powers, finite sums, numbers, no zero divisors
--   Homomorphism Evaluate                        homomorphisms; the value of a polynomial, Horner's rule, appended lists
-- Series
--   Series Agree Cut                             series are again a semiring; agreement below n; windows, degrees, cuts
--   Substitution                                 substitution of a series without constant term; associativity
--   Spread Quotient Alternate Derivative         a(x^p); P / Q; a(-x), even and odd part; derivatives
--   Karatsuba                                    the even and the odd part of a product, from three products
-- Numbers
--   Remainder Prime Binomial                     remainders; Euclid's lemma and trial division; binomial coefficients
--   Residue Frobenius Fermat                     residues modulo p; the p-th power; Fermat and inverses
-- Routes, equal answers, reversion
--   Parts                                        route 3: a list by powers modulo p
--   Plane Graeffe Geometric KinoshitaLi          route 4: two variables, Q(x, y) Q(-x, y), P / (1 - y g), the levels
--   Taylor Vanishing Valuation                   powers of (z - c), and when a value vanishes below n
--   Reversion                                    the reverse series: unique, and the Newton step
-- The bridge to the definitions
--   Lists Effective Bounded Bridge               tables; the effective length; places below p; lists as series over the residues
--   Composition Inverse                          the laws of composition and of reversion on lists
--   Rows PlaneBridge                             lists in rows; these as series in two variables over the residues
--   Halvings KinoshitaLiLists                    the number of halvings; route 4 on lists
-- What rests on the Newton step, on spreading and on the levels stands in proofs/.
pub mod Semiring
pub mod Negation
pub mod Power
pub mod Sum
pub mod Natural
pub mod Domain
pub mod Homomorphism
pub mod Evaluate
pub mod Series
pub mod Agree
pub mod Cut
pub mod Substitution
pub mod Spread
pub mod Quotient
pub mod Alternate
pub mod Karatsuba
pub mod Derivative
pub mod Remainder
pub mod Prime
pub mod Binomial
pub mod Residue
pub mod Frobenius
pub mod Fermat
pub mod Parts
pub mod Plane
pub mod Graeffe
pub mod Geometric
pub mod KinoshitaLi
pub mod Taylor
pub mod Vanishing
pub mod Valuation
pub mod Reversion
pub mod Lists
pub mod Effective
pub mod Bounded
pub mod Bridge
pub mod Composition
pub mod Inverse
pub mod Rows
pub mod PlaneBridge
pub mod Halvings
pub mod KinoshitaLiLists
