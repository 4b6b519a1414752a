-- What the field's routines answer, and the laws behind them.
--
--   Opening   the answer of the constructor
--   Trial     trial division by 2 and the odd numbers
--   Wheel     trial division by the numbers prime to 30
--   Square    the step of powering by squaring
pub mod Opening
pub mod Trial
pub mod Wheel
pub mod Square
