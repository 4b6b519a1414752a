-- The laws behind a cut product of any number of places.
--
--   Long   products that are written in two parts
pub mod Long
