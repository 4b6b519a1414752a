-- What rests on the rule. It stands here, and not in specs/, so that the rule's own proof refuses an edit of it.
--
--   Woven   the three products of the halves, woven, are the product
pub mod Woven
