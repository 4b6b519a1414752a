-- The laws behind products on lists of blocks.
--
--   Blocks    a result as a sum over pairs of blocks
pub mod Blocks
