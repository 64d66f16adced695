pub mod Hints
pub mod Ports
pub mod Remarks
pub mod Status
pub mod Words
pub mod Slips
pub mod Several
pub mod ShownText
