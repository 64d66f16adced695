-- Edits of a text, one after another.
pub mod Applied
