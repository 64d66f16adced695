pub mod Line
mod Worked
