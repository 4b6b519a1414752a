-- The contracts of the steps on polynomials in x and y, and the laws behind them.
--
--   Steps   steps on rows of one list
--   Exact   polynomials that rows hold whole
pub mod Steps
pub mod Exact
