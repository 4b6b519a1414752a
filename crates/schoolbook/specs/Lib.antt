-- The laws behind a product by rows.
--
--   ByRows   what the rows add up to, and its remainders
pub mod ByRows
