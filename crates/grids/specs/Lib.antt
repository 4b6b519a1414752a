-- The laws behind products of parts of polynomials in x and y.
--
--   Grid    a part, read into a list of blocks
--   Parts   products of parts
pub mod Grid
pub mod Parts
