pub mod Elf
pub mod Faults
pub mod Flat
pub mod Images
pub mod Rams
pub mod Tables
