-- The contract of a product that is added to a part of a list, and the laws behind it.
--
--   Operands  what it requires, and what it leaves
--   From      only the places from one on written
pub mod Operands
pub mod From
