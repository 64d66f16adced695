pub mod Written
pub mod Stream
pub mod Normal
pub mod Event
