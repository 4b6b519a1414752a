-- The laws of numbers in decimal and of texts.
--
--   Digits    the digits of a number, and how many there are
--   Writing   lists written one after the other into a text
pub mod Digits
pub mod Writing
