-- Laws of the job file.
--
--   File   the lists of a file, and what the tests 12 and 13 tell of it
pub mod File
