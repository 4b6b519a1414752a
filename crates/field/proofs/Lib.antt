-- Theorems over the definitions. They stand here, and not in specs/, so that an edit of a definition that they refuse is refused by a proof.
--
--   Wheel   trial division by the numbers prime to 30
pub mod Wheel
