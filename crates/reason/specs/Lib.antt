-- The numbers of the refusals.
--
--   Numbers   the number of a refusal and of an answer, and the value of an answer
pub mod Numbers
