pub mod Example
pub mod FormTest
