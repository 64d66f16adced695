pub mod Named
pub mod Outlined
pub mod Spoken
pub mod Told
pub mod Versions
