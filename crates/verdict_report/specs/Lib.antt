pub mod FaultValues
pub mod Faults
pub mod Lines
