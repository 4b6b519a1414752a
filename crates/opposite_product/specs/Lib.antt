-- The laws behind a product by even and odd powers of x.
--
--   Opposite   a(x, y) a(-x, y)
pub mod Opposite
