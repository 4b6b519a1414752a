-- Laws of products of polynomials in x and y over the natural numbers and modulo p.
--
--   Products   squares, x and y exchanged, residues
--   Parity     even and odd powers of x
--   Rows       lists of rows
pub mod Products
pub mod Parity
pub mod Rows
