pub mod Fronts
pub mod Gathering
pub mod PrintLaws
pub mod Texts
