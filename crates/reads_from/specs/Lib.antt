pub mod Choice
pub mod StoreLaws
