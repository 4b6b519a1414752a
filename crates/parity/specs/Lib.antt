-- The laws behind lists by parity.
--
--   Halves   every second place of a list, and the sums of neighbours
--   Weave    a list woven from three of half the length
pub mod Halves
pub mod Weave
