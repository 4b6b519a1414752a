-- The contracts of the steps of route 3 and the laws behind them.
--
--   Counts   the counts and the orders of the parts
--   Steps    the contract of a part, and the lists that the steps write
pub mod Counts
pub mod Steps
