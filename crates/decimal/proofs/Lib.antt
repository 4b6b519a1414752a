-- The laws that the proofs share.
--
--   Places   how many digits a number has
pub mod Places
