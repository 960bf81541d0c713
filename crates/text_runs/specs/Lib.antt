pub mod Written
pub mod Printouts
pub mod Taking
