-- Theorems that rest on a law that an edit changes. They stand here, and not in specs/, so that the law's own proof refuses the edit.
--
--   Newton             what Newton's step reaches: reverse series exist, and from both sides
--   Inverse            the reverse series of a list, from the other side
--   KinoshitaLi        route 4: the levels give P/Q
--   LevelsEvaluate     route 4: they give f(g)
--   KinoshitaLiLists   route 4 on lists: the levels give the composition
pub mod Newton
pub mod Inverse
pub mod KinoshitaLi
pub mod LevelsEvaluate
pub mod KinoshitaLiLists
