-- What rests on a law that an edit makes false. It stands here, and not in specs/, so that the law's own proof refuses the edit.
--
--   LevelDone   what a level ensures
pub mod LevelDone
