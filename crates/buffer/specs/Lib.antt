-- The laws of lent buffers.
--
--   Written   lists written into lists
--   Bounded   lists of numbers below a bound
--   Segments  the places of a list from one on, and writes apart from them
--   Within    lists that are equal outside some places
--   Turns     the place of a running value
--   Filling   a loop that writes a table
pub mod Written
pub mod Bounded
pub mod Segments
pub mod Within
pub mod Turns
pub mod Filling
