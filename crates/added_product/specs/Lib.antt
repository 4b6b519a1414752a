-- The laws behind an added product.
--
--   Added   what is required, and what is written
pub mod Added
