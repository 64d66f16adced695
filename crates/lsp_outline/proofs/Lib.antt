pub mod Outlining
pub mod Editing
pub mod Meaning
pub mod Spans
pub mod Speaking
pub mod Negatives
pub mod Naming
