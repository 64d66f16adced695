-- A run over one raw stream: what is due for it, and what is written.
pub mod Parts
pub mod Lines
pub mod Found
pub mod Due
pub mod Runs
pub mod Long
pub mod Endings
pub mod Outputs
