pub mod Answered
pub mod FenceGrown
pub mod MarksGrown
pub mod Told
pub mod Waits
