-- The laws of the printed answer.
--
--   Answered   what rendering promises, of a refused and of an accepted call
pub mod Answered
