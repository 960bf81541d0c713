pub mod Answers
pub mod Found
pub mod LeadLaws
pub mod Questions
pub mod Since
pub mod SinceLaws
