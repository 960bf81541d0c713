pub mod Kinds
pub mod Frames
pub mod Pieces
pub mod Reading
pub mod Cut
pub mod Taking
