-- Karatsuba's rule on lists, and the contracts of the crate.
--
--   Rule     the product is woven from the three
--   Room     what a product requires, and one of its three products
--   Thirds   the three of them
pub mod Rule
pub mod Room
pub mod Thirds
