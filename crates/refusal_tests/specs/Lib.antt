-- The tests of what a call is handed.
--
--   Tests     what the number of a list of tests tells, and each test that does not fire
pub mod Tests
