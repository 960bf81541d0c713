pub mod Buffers
pub mod Chains
pub mod Parts
