pub mod IdLemmas
pub mod Readings
pub mod OutlineWords
