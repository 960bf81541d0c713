pub mod Depending
pub mod Insns
pub mod Latest
pub mod Standing
pub mod Tagged
