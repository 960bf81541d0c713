mod DigitsLaws
mod Value
pub mod SpellingLaws
pub mod TextLaws
