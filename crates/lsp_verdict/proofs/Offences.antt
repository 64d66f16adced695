-- All offences of a session: what is kept, what is listed, and how both go on with one event more.
pub mod Offending
pub mod Surveying
pub mod Quiet
pub mod Steps
