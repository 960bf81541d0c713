pub mod FitLaws
pub mod GenLaws
pub mod TextLaws
pub mod ProgramLaws
pub mod NumberLaws
pub mod OptionLaws
pub mod CheckLaws
pub mod AnswerLaws
