pub mod Cores
pub mod Headline
pub mod Judgements
pub mod Judging
pub mod Limits
pub mod Runs
