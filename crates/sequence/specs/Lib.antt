-- Sequences of calls of a chain.
--
--   Running    laws of the running series: its places, a chain cut in two, a cycle undone
--   Sequence   sequences of calls, and the record and the running series of the cycles accepted
--   Handed     the calls of a sequence
--   Cut        the two parts of a chain that is cut
--   Undone     a cycle with the reverse series restores the running series
pub mod Running
pub mod Sequence
pub mod Handed
pub mod Cut
pub mod Undone
