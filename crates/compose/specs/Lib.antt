-- Laws of compose.
--
--   Numbers    the weight of the route of each number
--   Answered   what compose promises, of a refused and of an accepted call
pub mod Numbers
pub mod Answered
