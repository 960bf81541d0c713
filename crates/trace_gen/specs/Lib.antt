pub mod Program
pub mod Rounds
pub mod Schedule
pub mod Making
pub mod Counts
