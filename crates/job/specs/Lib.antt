-- Laws of a job.
--
--   Run    the composition of a job, and its numbers
--   Solved the solution of a job, and its printed answer
pub mod Run
pub mod Solved
