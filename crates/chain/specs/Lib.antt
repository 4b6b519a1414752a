-- Chains.
--
--   Record     the record of the code, as the definition has it
--   Answered   what opening and a cycle promise, of a refused and of an accepted call
pub mod Record
pub mod Answered
