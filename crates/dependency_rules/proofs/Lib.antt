pub mod Answered
pub mod Depended
pub mod Latest
