pub mod Added
pub mod KeptGrown
