pub mod Rows
pub mod Leaving
pub mod Entering
pub mod Lasts
pub mod Found
