-- Worked sessions, each checked by computing it.
pub mod Templates
pub mod Interleavings
