pub mod Events
pub mod Order
pub mod Slots
pub mod Windows
