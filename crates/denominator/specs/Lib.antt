-- The coefficients of 1 - y g.
--
--   Powers   powers that do not occur
pub mod Powers
