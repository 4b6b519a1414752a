-- The contracts of Newton's step, and the laws behind them.
--
--   Newton      Newton's step on lists
--   Step        Newton's step in the lent buffers
pub mod Newton
pub mod Step
