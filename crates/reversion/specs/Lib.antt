-- The contracts of reversion, and the laws behind them.
--
--   Start       the series with which the iteration begins
--   Iteration   the loop over the steps
--   Answered    what reverse promises, of a refused and of an accepted call
pub mod Start
pub mod Iteration
pub mod Answered
