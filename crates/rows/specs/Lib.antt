-- The laws behind a pass over the places.
--
--   Rows   rows of the multiplication by hand, added to sums in two halves
--   Sums   such sums, and their remainders
pub mod Rows
pub mod Sums
