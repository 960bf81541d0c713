pub mod Verdicts
pub mod Accepting
