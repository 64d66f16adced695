pub mod Putting
pub mod SetTexts
