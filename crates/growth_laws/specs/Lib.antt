pub mod Corollaries
pub mod Growth
pub mod Kinds
pub mod Laws
pub mod Writers
