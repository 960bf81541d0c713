pub mod CellLaws
pub mod Captures
pub mod Found
pub mod Lines
pub mod Positions
