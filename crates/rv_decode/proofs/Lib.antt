pub mod Opcodes
pub mod Range
pub mod Found
pub mod TwosComplement
pub mod Only
