pub mod Gone
pub mod Growth
pub mod Leaves
pub mod Numbers
pub mod Putting
pub mod Taking
pub mod Ways
