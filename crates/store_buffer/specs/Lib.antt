pub mod Searches
pub mod Slots
pub mod Store
pub mod Stores
pub mod Waiting
