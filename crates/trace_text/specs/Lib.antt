pub mod Lines
pub mod Reading
pub mod Texts
pub mod Values
pub mod Words
