-- The number that each call returns: what number 0 tells, and what a call leaves.
--
--   Bounds    what number 0 tells of a call
--   Answers   what an accepted and a refused call leave
pub mod Bounds
pub mod Answers
