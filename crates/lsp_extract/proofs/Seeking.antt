-- One event of a log: how it is found, and that there is one such event.
pub mod Places
pub mod Logs
pub mod Laws
