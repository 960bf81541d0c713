pub mod Joined
pub mod Premises
