-- The contracts of route 4, and the laws behind them.
--
--   Whole      the route as a whole
pub mod Whole
