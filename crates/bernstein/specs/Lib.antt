-- The contracts of route 3 and the laws behind them.
--
--   Weights   the weight by levels
--   Split     the parts, joined by Horner's rule, are f(g)
--   Level     the contracts
--   Rest      the value of a part
--   Join      the join of one part more
--   Loop      the parts from the top one down
pub mod Weights
pub mod Split
pub mod Level
pub mod Rest
pub mod Join
pub mod Loop
