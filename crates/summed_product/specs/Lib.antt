-- The laws behind the product of two parts, added to sums row by row.
--
--   Terms   the terms of such a product, eight rows at a time
--   Sums    what the sums keep, and its remainders
--   Zeros   lists of zeros
pub mod Terms
pub mod Sums
pub mod Zeros
