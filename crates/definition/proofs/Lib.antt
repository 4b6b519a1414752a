-- Theorems over the definitions. They stand here, and not in specs/, so that an edit of a definition that they refuse is refused by a proof.
--
--   Determined        what a call promises determines its whole answer
--   TableDetermined   the rule of the table determines the table
pub mod Determined
pub mod TableDetermined
