-- Sessions in which each side sends the same in the same order, however the two sides' events meet.
pub mod Parts
pub mod Acts
pub mod Handshake
pub mod Stages
pub mod Calls
pub mod Both
