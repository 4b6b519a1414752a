-- The contracts of a division of series, and the laws behind it.
--
--   Inverse    the inverse of a series by doubling
--   Doubling   the same on parts of one list
--   Quotient   a / b on one list
pub mod Inverse
pub mod Doubling
pub mod Quotient
