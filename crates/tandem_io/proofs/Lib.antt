pub mod LogLaws
pub mod WindowLaws
