-- What rests on a law that an edit changes. It stands here, and not in specs/, so that the law's own proof refuses the edit.
--
--   Part   one turn, from the running value after step (a)
pub mod Part
