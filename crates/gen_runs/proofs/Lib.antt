pub mod Judged
pub mod Gathered
pub mod FramesCut
pub mod Accepted
