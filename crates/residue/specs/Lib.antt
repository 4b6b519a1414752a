-- The laws behind sums and differences of residues and products of small numbers.
--
--   Residue   sums and differences without a division, and a bound of a product
pub mod Residue
