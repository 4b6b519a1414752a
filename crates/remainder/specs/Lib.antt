-- The laws of remainders of sums that are kept in two parts.
--
--   Division  a remainder by one division
--   Inverse   a remainder by multiplications
pub mod Division
pub mod Inverse
