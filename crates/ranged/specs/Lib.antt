-- The contracts of route 2 and the laws behind them.
--
--   Spans       the parts of the outer list that the joins are about
--   Weights     the number of products
--   Neighbours  two neighbours joined: a product, then an addition
--   Joins       spans composed in the work buffer, and joined
--   Whole       the route as a whole
pub mod Spans
pub mod Weights
pub mod Neighbours
pub mod Joins
pub mod Whole
