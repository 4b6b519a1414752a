-- The laws behind the parts of Karatsuba's rule in two variables.
--
--   Packed    polynomials in x and y in lists
--   Halves    the even and the odd powers of x in a part, and their sum
--   Weave     the three products, woven
pub mod Packed
pub mod Halves
pub mod Weave
