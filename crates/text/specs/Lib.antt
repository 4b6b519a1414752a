-- Laws of the printed text.
--
--   Lengths   the count of bytes of a text
pub mod Lengths
