-- The contracts of the powers of route 2 and the laws behind them.
--
--   Powers   products of powers of the inner list
--   Digits   the binary digits of an exponent, and the products that form the power by them
--   Binary   left-to-right binary powering in the work buffer
--   Kept     powers of the inner list kept in the work buffer
pub mod Powers
pub mod Digits
pub mod Binary
pub mod Kept
