pub mod Numbers
pub mod Fault
pub mod Lends
pub mod Places
pub mod Texts
