-- The laws behind the rows of a product in two variables.
--
--   Places   a place of the product from those of its parts
pub mod Places
