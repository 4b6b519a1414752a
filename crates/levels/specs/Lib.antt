-- The contracts of route 4's levels, and the laws behind them.
--
--   Space      the places that the levels use
--   Layout     the parts of a level
--   Graeffe    the two halves of a level
--   Level      a level
pub mod Space
pub mod Layout
pub mod Graeffe
pub mod Level
