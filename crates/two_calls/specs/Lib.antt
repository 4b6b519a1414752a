-- When two answers are equal (demand 3).
--
--   Leading    the first coefficients in powers of (z - c) depend on the inner list below n alone
--   TwoCalls   the claim about two calls; its proof stands in proofs/
pub mod Leading
pub mod TwoCalls
