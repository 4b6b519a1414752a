-- The laws behind a coefficient of a product.
--
--   Halves   a sum of products kept in two halves
pub mod Halves
