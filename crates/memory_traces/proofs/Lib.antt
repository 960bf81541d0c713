pub mod Example
pub mod ExampleInsns
pub mod ExamplePair
pub mod Formed
pub mod Occurring
