-- Theorems over the claims. They stand here, and not in specs/, so that an edit of a claim that they refuse is refused by a proof.
--
--   TwoCalls   the claim about two calls holds of any two
pub mod TwoCalls
