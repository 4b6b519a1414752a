-- The laws behind a product by even and odd powers of x.
--
--   Spread   a(x^2, y) b(x, y)
pub mod Spread
