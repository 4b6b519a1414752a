-- Theorems over the definitions. They stand here, and not in specs/, so that an edit of a definition that they refuse is refused by a proof.
--
--   Table     the rule of the table written out
--   Largest   the largest prime below 2^32
pub mod Table
pub mod Largest
