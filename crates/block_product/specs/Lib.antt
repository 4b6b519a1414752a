-- The laws behind products on lists of blocks modulo p.
--
--   Results   blocks of a product, the remainders of the sums
pub mod Results
