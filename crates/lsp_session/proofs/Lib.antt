pub mod Bools
pub mod Ids
pub mod Entries
pub mod Steps
pub mod ByStateLemmas
pub mod LawLemmas
pub mod LeastRuleLemmas
pub mod Unread
