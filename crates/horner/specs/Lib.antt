-- The contracts of Horner's rule and the laws behind them.
--
--   Steps  the two steps of a turn, (a) multiply by g and (b) add the next coefficient
--   Part   all turns, on places of the work buffer
pub mod Steps
pub mod Part
