pub mod Harts
pub mod Integers
pub mod Memory
pub mod Causes
pub mod CsrUse
pub mod Steps
pub mod Plans
pub mod Promises
