pub mod Parts
pub mod Tagged
