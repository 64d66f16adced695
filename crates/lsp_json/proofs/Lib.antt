pub mod Cuts
pub mod Objects
pub mod Patterns
