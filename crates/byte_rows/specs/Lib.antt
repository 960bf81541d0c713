pub mod Links
pub mod Waiters
