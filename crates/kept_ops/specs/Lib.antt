pub mod Arrivals
pub mod Divisions
pub mod Doublewords
pub mod Marks
pub mod Operations
pub mod Ops
pub mod Tables
pub mod Words
