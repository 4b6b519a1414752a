-- Theorems over sequences of calls of a chain. They stand here, and not in specs/, so that an edit of a definition that they refuse is
-- refused by a proof.
--
--   Sequence   after every sequence of calls the running series is the composition of all cycles accepted
--   Handed     another chain accepts what one accepted
--   Joined     the running series of two chains, composed
--   Cut        the running series of the whole from those of two parts
--   Undone     a cycle undone in a sequence, and by what a reverse wrote
pub mod Sequence
pub mod Handed
pub mod Joined
pub mod Cut
pub mod Undone
