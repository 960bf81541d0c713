pub mod Turns
pub mod Numbers
pub mod Fitting
pub mod Sound
