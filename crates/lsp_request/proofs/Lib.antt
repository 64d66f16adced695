pub mod Appended
pub mod Fronts
pub mod Asked
pub mod Found
