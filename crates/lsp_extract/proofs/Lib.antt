pub mod Due
pub mod SameLimits
pub mod Framing
pub mod Forming
pub mod Seeking
