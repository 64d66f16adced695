pub mod CommandLine
pub mod Finding
