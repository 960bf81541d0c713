pub mod Chosen
pub mod Standing
