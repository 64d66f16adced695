pub mod Fits
pub mod Rearranged
pub mod RightFrom
pub mod OtherLines
pub mod Told
pub mod OlderEncoding
pub mod Traced
pub mod Explained
