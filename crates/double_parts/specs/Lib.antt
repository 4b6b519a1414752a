-- The laws behind parts of polynomials in rows.
--
--   Rows   the even and the odd powers of x in rows of a buffer
--   Made   the lists that products of parts are written to
pub mod Rows
pub mod Made
