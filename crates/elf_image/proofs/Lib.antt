pub mod Apart
pub mod Found
pub mod Loads
pub mod Located
pub mod Same
pub mod Wide
