-- The contracts of the cut products and the laws behind them.
--
--   Single   products in one variable
--   Planes   polynomials in two variables that stand in a list, row by row
--   Double   products in two variables
pub mod Single
pub mod Planes
pub mod Double
