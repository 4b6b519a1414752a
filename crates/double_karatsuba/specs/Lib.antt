-- The laws behind products of parts by Karatsuba's rule.
--
--   Rule      the rule for polynomials in x and y
--   Product   what a product requires, and its three products
pub mod Rule
pub mod Product
