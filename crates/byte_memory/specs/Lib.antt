pub mod Captures
pub mod Cells
pub mod Memory
