-- The normal form of a log: what it is, and how it is written.
pub mod Pieces
pub mod Forms
pub mod Counts
pub mod OneForm
pub mod Ends
pub mod Logs
pub mod Again
pub mod Verdicts
