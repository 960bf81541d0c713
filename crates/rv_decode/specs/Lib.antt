pub mod Formats
pub mod Operations
pub mod Listing
pub mod Decoding
pub mod Registers
pub mod Kinds
